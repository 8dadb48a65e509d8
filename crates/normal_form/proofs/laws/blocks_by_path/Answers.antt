use Rattle.normal_form.proofs.Joining.{shared_end}
use Rattle.normal_form.proofs.laws.blocks_by_path.Goals as goal

pub returns : goal.returns
returns c = shared_end
