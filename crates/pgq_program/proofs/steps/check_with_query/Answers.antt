use Rattle.pgq_program.proofs.CheckedQueries.{line_told}
use Rattle.pgq_program.proofs.steps.check_with_query.Goals as goal

pub returns-clause-told : goal.returns-clause-told
returns-clause-told g c =
    line_told c.args.schema.now c.args.query.now _ c.in_ok-checked.checked c.in_ok-weight_line.field-0 c.in_ok-checked.ensures.told c.in_ok-weight_line.ensures
