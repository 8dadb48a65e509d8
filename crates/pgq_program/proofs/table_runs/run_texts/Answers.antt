use Rattle.pgq_program.proofs.RunsOfTexts.{placed_run}
use Rattle.pgq_program.proofs.table_runs.run_texts.Goals as goal

pub returns-clause-in_text : goal.returns-clause-in_text
returns-clause-in_text c = placed_run c.args.schema.now c.args.query.now c.args.tables.now c.run_over.result c.run_over.ensures
