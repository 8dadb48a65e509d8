use Rattle.distinct_rows.specs.KeyOrder.{holds}
use Rattle.distinct_rows.proofs.DifferentRows.{Counted}
use Rattle.distinct_rows.proofs.counting.distinct.Given as goal

abbrev pub invariant-loop-row : goal.invariant-loop-row
invariant-loop-row l = Counted (holds l.seen) l.count l.rows l.row-index
