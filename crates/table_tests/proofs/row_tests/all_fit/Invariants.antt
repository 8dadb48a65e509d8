use Rattle.std.proofs.Common.{ℕ, ◌<◌}
use Rattle.multisets.specs.Bags.{IsIn}
use Rattle.pgq_base.specs.Instances.{RowValues, rows_at}
use Rattle.graph_ast.specs.Fits.{IsRowOf}
use Rattle.graph_ast.specs.Lookups.{table_at}
use Rattle.row_eval.specs.Stored.{stored}
use Rattle.table_tests.proofs.row_tests.all_fit.Given as goal

abbrev pub invariant-loop-i : goal.invariant-loop-i
invariant-loop-i l = (k : ℕ) → k < l.i → (row : RowValues) → IsIn row (rows_at (stored l.rows) k) → IsRowOf (table_at l.catalog k).columns row
