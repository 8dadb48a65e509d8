use Rattle.sample_bound.proofs.SampleBindings.{answer_is_small}
use Rattle.sample_bound.proofs.laws.sample_answer_is_small.Goals as goal

pub returns : goal.returns
returns c = answer_is_small
