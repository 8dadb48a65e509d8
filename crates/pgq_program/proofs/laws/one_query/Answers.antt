use Rattle.pgq_program.proofs.OneDue.{single_texts}
use Rattle.pgq_program.proofs.laws.one_query.Goals as goal

pub returns : goal.returns
returns c = λ schema query. single_texts schema query
