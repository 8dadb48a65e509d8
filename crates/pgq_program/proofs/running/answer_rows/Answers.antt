use Rattle.csv_tables.specs.Constraints.{instance_rows}
use Rattle.pgq_base.specs.declared.refusal.Role.TheVariants.{Query}
use Rattle.sql_algebra.specs.Meaning.{bag}
use Rattle.pgq_program.specs.Running.{answer_of}
use Rattle.pgq_program.proofs.SameRows.{gives_rows}
use Rattle.pgq_program.proofs.running.answer_rows.Goals as goal

pub returns : goal.returns
returns c =
    gives_rows Query (answer_of c.args.catalog.now c.args.query.now (instance_rows c.args.instance.now))
    (bag c.args.catalog.now c.in_ok-sql.sql (instance_rows c.args.instance.now))
    (c.in_ok-sql.ensures.means (instance_rows c.args.instance.now) c.requires.fits) c.rows_of.result c.rows_of.ensures.told c.rows_of.ensures.never c.rows_of.ensures.calm
