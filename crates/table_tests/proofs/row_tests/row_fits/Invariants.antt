use Rattle.std.proofs.Common.{drop}
use Rattle.graph_ast.specs.Fits.{IsRowOf}
use Rattle.table_tests.proofs.row_tests.row_fits.Given as goal

abbrev pub invariant-loop-i : goal.invariant-loop-i
invariant-loop-i l = IsRowOf (drop l.i l.columns) (drop l.i l.values) → IsRowOf l.columns l.values
