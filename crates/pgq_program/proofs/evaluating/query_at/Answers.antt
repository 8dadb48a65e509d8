use Rattle.pgq_program.proofs.EvaluatedTables.{in_file}
use Rattle.pgq_program.proofs.evaluating.query_at.Goals as goal

pub returns-clause-told : goal.returns-clause-told
returns-clause-told g c =
    in_file c.args.catalog.now c.args.name.now c.in_ok-text.text _ c.query_in.result c.in_ok-text.ensures.told c.as_slice.result.now c.as_slice.ensures c.query_in.ensures.due
