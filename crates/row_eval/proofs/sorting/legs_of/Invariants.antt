use Rattle.std.proofs.Common.{◌≡◌, ◌++◌, map, drop}
use Rattle.row_eval.specs.Sorted.{bare_leg}
use Rattle.row_eval.proofs.sorting.legs_of.Given as goal

abbrev pub invariant-loop-item : goal.invariant-loop-item
invariant-loop-item l = l.legs.items ++ map (bare_leg l.catalog) (drop l.item-index l.items) ≡ map (bare_leg l.catalog) l.items
