use Rattle.std.proofs.Common.{◌≡◌, ◌+◌, ◌-◌, ◌≤◌, ◌++◌, drop, length}
use Rattle.row_eval.specs.Served.{merge}
use Rattle.row_eval.proofs.places.merged.Given as goal

abbrev pub invariant-loop-i : goal.invariant-loop-i
invariant-loop-i l = record {
  whole : l.all.items ++ merge (drop l.i l.a) (drop l.j l.b) ≡ merge l.a l.b;
  within : l.j ≤ length l.b;
}

abbrev pub decreases-loop-i : goal.decreases-loop-i
decreases-loop-i l = (length l.a - l.i) + (length l.b - l.j)
