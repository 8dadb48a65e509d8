use Rattle.pgq_base.specs.declared.refusal.Role.TheVariants.{Query}
use Rattle.std.proofs.Common.{rules}
use Rattle.pgq_program.specs.Queries.{IsQueryRead}
use Rattle.pgq_program.proofs.TextsDue.{of_sized}
use Rattle.pgq_program.proofs.texts.query_in.Goals as goal

pub returns-clause-due : goal.returns-clause-due
returns-clause-due c = of_sized Query c.args.query.now (IsQueryRead c.args.catalog.now) c.read_checked.result (search rules) c.read_checked.ensures.due
