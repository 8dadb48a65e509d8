use Rattle.sample_reading.proofs.Cut.{tokens, few}
use Rattle.sample_reading.proofs.Phrases.{tree_spelled, shallow}
use Rattle.sample_reading.proofs.Faultless.{served, due_is}
use Rattle.sample_reading.proofs.laws.sample_query_read.Goals as goal

pub returns-clause-tokens : goal.returns-clause-tokens
returns-clause-tokens c = tokens

pub returns-clause-few : goal.returns-clause-few
returns-clause-few c = few

pub returns-clause-spelled : goal.returns-clause-spelled
returns-clause-spelled c = tree_spelled

pub returns-clause-shallow : goal.returns-clause-shallow
returns-clause-shallow c = shallow

pub returns-clause-served : goal.returns-clause-served
returns-clause-served c = served

pub returns-clause-checked : goal.returns-clause-checked
returns-clause-checked c = due_is
