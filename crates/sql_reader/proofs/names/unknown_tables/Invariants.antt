use Rattle.std.proofs.Common.{◌≡◌, drop}
use Rattle.std.specs.List.{flat_map}
use Rattle.first_faults.specs.Faults.{first_of}
use Rattle.sql_reader.specs.Names.{unknown_table}
use Rattle.sql_reader.proofs.names.unknown_tables.Given as goal

abbrev pub invariant-loop-item : goal.invariant-loop-item
invariant-loop-item l = first_of l.found (flat_map (unknown_table l.tables) (drop l.item-index l.items)) ≡ first_of l.fn.found (flat_map (unknown_table l.tables) l.items)
