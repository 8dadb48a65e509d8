use Rattle.std.proofs.Common.{◌<◌, length, arith}
use Rattle.row_eval.specs.Scopes.{placed}
use Rattle.row_eval.specs.Plans.{items_in}
use Rattle.row_eval.proofs.AnswerLemmas.{column_classed}
use Rattle.row_eval.proofs.evaluator.outputs_of.Goals as goal

pub resolve_output-requires : goal.resolve_output-requires
resolve_output-requires c =
    let i = c.loop-column.column-index in
    let within : i < length c.args.columns.now = omega arith in
    column_classed c.args.catalog.now (items_in (placed c.args.reach.now)) c.args.columns.now i c.column-item.result within c.column-item.is c.requires
