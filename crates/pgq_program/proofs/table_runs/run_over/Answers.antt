use Rattle.pgq_program.proofs.RunsOfTexts.{behind_texts}
use Rattle.pgq_program.proofs.table_runs.run_over.Goals as goal

pub returns : goal.returns
returns c =
    behind_texts c.args.schema.now c.args.query.now c.args.tables.now c.in_ok-catalog.catalog c.in_ok-query.query c.table_over.result c.in_ok-catalog.ensures.due
    c.in_ok-query.ensures.due c.table_over.ensures
