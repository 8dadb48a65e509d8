use Rattle.csv_tables.specs.Constraints.{instance_rows}
use Rattle.pgq_program.proofs.EvaluatedRows.{meets, fit}
use Rattle.pgq_program.proofs.evaluation.rows_of.Goals as goal

pub returns-in-Ok-clause-fit : goal.returns-in-Ok-clause-fit
returns-in-Ok-clause-fit c =
    fit c.args.catalog.now c.args.query.now (instance_rows c.args.instance.now) c.in-Ok.rows.rows c.requires.sound c.in-Ok.ensures.rows
