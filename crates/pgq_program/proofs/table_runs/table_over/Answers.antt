use Rattle.std.proofs.Common.{subst, sym}
use Rattle.csv_tables.specs.Constraints.{instance_rows}
use Rattle.pgq_program.specs.TableRuns.{IsTableDue}
use Rattle.pgq_program.specs.Texts.{GivesDue}
use Rattle.pgq_program.proofs.RunsOfTexts.{with_instance}
use Rattle.pgq_program.proofs.table_runs.table_over.Goals as goal

pub returns : goal.returns
returns c =
    subst (λ result. GivesDue (IsTableDue c.args.catalog.now c.args.query.now c.args.tables.now) result) (sym c.stopped.ensures)
    (with_instance c.args.catalog.now c.args.query.now c.args.tables.now (instance_rows c.in_ok-instance.instance) c.answer_table.result c.in_ok-instance.ensures.value
    c.answer_table.ensures.told)
