use Rattle.std.proofs.Common.{◌<◌, length, subst, arith}
use Rattle.graph_ast.specs.Fits.{IsRowOf}
use Rattle.table_tests.proofs.FitLemmas.{rows_next}
use Rattle.table_tests.proofs.row_tests.rows_fit.Goals as goal

pub loop-row-preserved : goal.loop-row-preserved
loop-row-preserved c =
    let i = c.loop-row.row-index in
    let within : i < length c.args.rows.now = omega arith in
    rows_next c.args.columns.now c.args.rows.now i c.row-item.result within c.row-item.is c.loop-row.invariant
    (subst (IsRowOf c.args.columns.now) c.as_slice.ensures (c.row_fits.ensures c.if-not-row_fits.false))
