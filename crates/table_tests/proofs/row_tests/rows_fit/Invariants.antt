use Rattle.std.proofs.Common.{take}
use Rattle.multisets.specs.Bags.{IsIn}
use Rattle.pgq_base.specs.Instances.{RowValues}
use Rattle.graph_ast.specs.Fits.{IsRowOf}
use Rattle.row_eval.specs.Stored.{row_values}
use Rattle.table_tests.proofs.row_tests.rows_fit.Given as goal

abbrev pub invariant-loop-row : goal.invariant-loop-row
invariant-loop-row l = (row : RowValues) → IsIn row (row_values (take l.row-index l.rows)) → IsRowOf l.columns row
