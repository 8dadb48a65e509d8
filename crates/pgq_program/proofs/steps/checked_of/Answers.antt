use Rattle.std.proofs.Common.{subst, IfSome}
use Rattle.pgq_program.specs.Steps.{StepGives, IsQueryAt}
use Rattle.pgq_program.proofs.CheckedQueries.{in_files}
use Rattle.pgq_program.proofs.steps.checked_of.Goals as goal

pub returns-clause-told : goal.returns-clause-told
returns-clause-told g c =
    in_files c.args.schema.now c.args.query.now c.in_ok-catalog.catalog _ c.query_at.result c.in_ok-catalog.ensures.told c.query_at.ensures.never
    (subst (λ files. IfSome files (λ told. StepGives (IsQueryAt c.in_ok-catalog.catalog c.args.query.now told) c.query_at.result)) c.in_ok-catalog.ensures.files
    c.query_at.ensures.told)
