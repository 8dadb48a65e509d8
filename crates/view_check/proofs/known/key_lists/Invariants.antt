use Rattle.std.proofs.Common.{◌≡◌, ◌++◌, drop}
use Rattle.std.specs.List.{filter_map, flat_map}
use Rattle.view_check.specs.KeyLists.{key_names, key_lists}
use Rattle.view_check.proofs.known.key_lists.Given as goal

abbrev pub invariant-loop-column : goal.invariant-loop-column
invariant-loop-column l =
    l.keys.items ++ filter_map (λ r. key_names r.kind) (flat_map (λ c. c.rules) (drop l.column-index l.table.columns) ++ l.table.rules) ≡ key_lists l.table
