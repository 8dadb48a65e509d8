use Rattle.sample_run.proofs.SampleFits.{fits}
use Rattle.sample_run.proofs.laws.sample_tables_fit.Goals as goal

pub returns : goal.returns
returns c = fits
