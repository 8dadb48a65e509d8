use Rattle.std.proofs.Common.{subst, IfSome}
use Rattle.pgq_program.specs.Steps.{StepWrites, IsAnswerAt}
use Rattle.pgq_program.proofs.EvaluatedTables.{with_places}
use Rattle.pgq_program.proofs.running.run.Goals as goal

pub returns-clause-told : goal.returns-clause-told
returns-clause-told g c =
    with_places c.args.schema.now c.args.tables.now (λ catalog places told. IsAnswerAt catalog c.args.tables.now places c.args.query.now told)
    c.in_ok-catalog.catalog c.in_ok-places.places _ c.answer_by.result c.in_ok-catalog.ensures.told c.in_ok-places.ensures.told c.as_slice.result.now c.as_slice.ensures
    (subst (λ files. IfSome files (λ told. StepWrites (IsAnswerAt c.in_ok-catalog.catalog c.args.tables.now c.as_slice.result.now c.args.query.now told) c.answer_by.result))
    c.in_ok-catalog.ensures.files c.answer_by.ensures.told)
