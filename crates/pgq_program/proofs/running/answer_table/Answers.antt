use Rattle.std.proofs.Common.{subst}
use Rattle.csv_tables.specs.Constraints.{instance_rows}
use Rattle.pgq_base.specs.declared.refusal.Role.TheVariants.{Query}
use Rattle.sql_algebra.specs.Meaning.{bag, names_of}
use Rattle.pgq_program.specs.Halts.{halting}
use Rattle.pgq_program.specs.Rows.{WritesTable}
use Rattle.pgq_program.specs.Running.{answer_of, answer_due}
use Rattle.pgq_program.proofs.SameRows.{writes_rows}
use Rattle.pgq_program.proofs.running.answer_table.Goals as goal

pub returns-clause-told : goal.returns-clause-told
returns-clause-told c =
    let instance = instance_rows c.args.instance.now in
    let same = c.in_ok-sql.ensures.means instance c.requires.fits in
    let answer = answer_of c.args.catalog.now c.args.query.now instance in
    let rows = bag c.args.catalog.now c.in_ok-sql.sql instance in
    subst (λ names. WritesTable names (halting (answer_due c.args.catalog.now c.args.query.now instance)) c.table_of.result) c.in_ok-sql.ensures.names
    (writes_rows Query answer rows same (names_of c.in_ok-sql.sql) (c.one_table_text.ensures (names_of c.in_ok-sql.sql) answer rows same) c.table_of.result c.table_of.ensures.told)
