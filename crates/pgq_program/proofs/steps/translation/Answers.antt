use Rattle.pgq_program.proofs.Translated.{query_written}
use Rattle.pgq_program.proofs.steps.translation.Goals as goal

pub returns-clause-told : goal.returns-clause-told
returns-clause-told g c =
    query_written c.args.catalog.now c.args.query.now _ c.in_ok-checked.checked c.in_ok-sql_text.field-0 c.in_ok-checked.ensures.told c.in_ok-sql_text.ensures
