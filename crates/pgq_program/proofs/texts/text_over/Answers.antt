use Rattle.pgq_program.proofs.TextsDue.{of_both}
use Rattle.pgq_program.proofs.texts.text_over.Goals as goal

pub returns-clause-means : goal.returns-clause-means
returns-clause-means c =
    of_both c.args.schema.now c.args.query.now c.in_ok-catalog.catalog c.in_ok-catalog.ensures.due c.in_ok-query.query c.in_ok-sql_text.field-0 c.in_ok-query.ensures.due
    c.in_ok-sql_text.ensures
