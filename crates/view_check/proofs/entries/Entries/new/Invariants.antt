use Rattle.std.proofs.Common.{◌≡◌, map, take}
use Rattle.view_check.proofs.entries.Entries.new.Given as goal

abbrev pub invariant-loop-table : goal.invariant-loop-table
invariant-loop-table l = (l.names ≡ map (λ t. t.name) l.all.items) × (l.all.items ≡ take l.table-index l.tables)
