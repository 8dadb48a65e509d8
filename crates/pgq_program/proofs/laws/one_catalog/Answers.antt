use Rattle.pgq_program.proofs.OneDue.{single_schema_due}
use Rattle.pgq_program.proofs.laws.one_catalog.Goals as goal

pub returns : goal.returns
returns c = λ schema. single_schema_due schema
