use Rattle.pgq_program.proofs.Translated.{printed}
use Rattle.pgq_program.proofs.texts.sql_text.Goals as goal

pub returns : goal.returns
returns c =
    printed c.args.catalog.now c.args.query.now c.in_ok-sql.sql c.one_meaning.ensures c.in_ok-sql.ensures.names c.in_ok-sql.ensures.means
    c.print.result (c.layout_means.ensures c.in_ok-sql.sql c.args.catalog.now c.in_ok-sql.ensures.printable c.in_ok-sql.ensures.sound) c.print.ensures
