use Rattle.std.proofs.Common.{◌≡◌, ◌++◌, drop}
use Rattle.shortest_lowering.proofs.copies.copy_columns.Given as goal

abbrev pub invariant-loop-column : goal.invariant-loop-column
invariant-loop-column l = l.all ++ drop l.column-index l.columns ≡ l.columns
