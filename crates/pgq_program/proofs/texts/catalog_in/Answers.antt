use Rattle.pgq_base.specs.declared.refusal.Role.TheVariants.{Schema}
use Rattle.std.proofs.Common.{rules}
use Rattle.pgq_program.specs.Schemas.{IsRead}
use Rattle.pgq_program.proofs.TextsDue.{of_sized}
use Rattle.pgq_program.proofs.texts.catalog_in.Goals as goal

pub returns-clause-due : goal.returns-clause-due
returns-clause-due c = of_sized Schema c.args.schema.now IsRead c.read_catalog.result (search rules) c.read_catalog.ensures.due
