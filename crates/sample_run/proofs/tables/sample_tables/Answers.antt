use Rattle.sample_run.proofs.SampleFits.{fits_made}
use Rattle.sample_run.proofs.tables.sample_tables.Goals as goal

pub returns-clause-fits : goal.returns-clause-fits
returns-clause-fits c = fits_made c.args.n c.requires.some c.requires.most c.made_tables.result c.made_tables.ensures
