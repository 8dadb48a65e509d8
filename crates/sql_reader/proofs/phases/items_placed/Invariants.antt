use Rattle.std.proofs.Common.{◌≡◌, ◌++◌, map, drop}
use Rattle.sql_reader.specs.Reaches.{placed as item_placed}
use Rattle.sql_reader.proofs.phases.items_placed.Given as goal

abbrev pub invariant-loop-item : goal.invariant-loop-item
invariant-loop-item l = l.placed ++ map (item_placed l.tables) (drop l.item-index l.items) ≡ map (item_placed l.tables) l.items
