use Rattle.std.proofs.Common.{◌≡◌, map, take}
use Rattle.view_check.proofs.entries.columns_by_name.Given as goal

abbrev pub invariant-loop-column : goal.invariant-loop-column
invariant-loop-column l = l.names ≡ map (λ c. c.name) (take l.column-index l.table.columns)
