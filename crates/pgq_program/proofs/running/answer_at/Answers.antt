use Rattle.std.proofs.Common.{ap, Err}
use Rattle.csv_tables.specs.Constraints.{instance_rows}
use Rattle.graph_meaning.specs.Answers.{names}
use Rattle.pgq_program.specs.Running.{answer_due}
use Rattle.pgq_program.proofs.EvaluatedTables.{with_instance, without_instance}
use Rattle.pgq_program.proofs.running.answer_at.Goals as goal

pub returns-in_err-instance-clause-told : goal.returns-in_err-instance-clause-told
returns-in_err-instance-clause-told g c =
    without_instance c.args.catalog.now c.args.words.now c.args.places.now (names c.args.query.now) (λ instance. answer_due c.args.catalog.now c.args.query.now instance) _
    c.in_err-instance.field-0.0 c.from_residual.result c.from_residual.ensures.1 c.in_err-instance.ensures.told (λ h. c.in_err-instance.ensures.never (ap Err h))

pub returns-clause-told : goal.returns-clause-told
returns-clause-told g c =
    with_instance c.args.catalog.now c.args.words.now c.args.places.now (names c.args.query.now) (λ instance. answer_due c.args.catalog.now c.args.query.now instance) _
    (instance_rows c.in_ok-instance.instance) c.answer_table.result c.in_ok-instance.ensures.told c.answer_table.ensures.told
