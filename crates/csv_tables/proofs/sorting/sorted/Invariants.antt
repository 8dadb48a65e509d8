use Rattle.std.proofs.Common.{◌≡◌, take, map}
use Rattle.csv_tables.specs.Outcomes.{values_of}
use Rattle.csv_tables.proofs.sorting.sorted.Given as goal

abbrev pub invariant-loop-row : goal.invariant-loop-row
invariant-loop-row l = map (λ line. line.row.now.values) l.lines.items ≡ map values_of (take l.row-index l.rows)
