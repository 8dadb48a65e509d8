use Rattle.std.proofs.Common.{subst, IfSome}
use Rattle.pgq_program.specs.Steps.{StepWrites, IsTableAt}
use Rattle.pgq_program.proofs.EvaluatedTables.{with_places}
use Rattle.pgq_program.proofs.evaluating.eval.Goals as goal

pub returns-clause-told : goal.returns-clause-told
returns-clause-told g c =
    with_places c.args.schema.now c.args.tables.now (λ catalog places told. IsTableAt catalog c.args.tables.now places c.args.sql.now told)
    c.in_ok-catalog.catalog c.in_ok-places.places _ c.table_by.result c.in_ok-catalog.ensures.told c.in_ok-places.ensures.told c.as_slice.result.now c.as_slice.ensures
    (subst (λ files. IfSome files (λ told. StepWrites (IsTableAt c.in_ok-catalog.catalog c.args.tables.now c.as_slice.result.now c.args.sql.now told) c.table_by.result))
    c.in_ok-catalog.ensures.files c.table_by.ensures.told)
