use Rattle.std.proofs.Common.{◌≡◌, [], drop}
use Rattle.first_faults.specs.Faults.{first_of}
use Rattle.sql_reader.specs.Levels.{reach_of}
use Rattle.sql_reader.specs.Names.{repeated_aliases}
use Rattle.sql_reader.proofs.names.repeated_aliases.Given as goal

abbrev pub invariant-loop-item : goal.invariant-loop-item
invariant-loop-item l =
    first_of l.found (repeated_aliases l.tables (reach_of l.outer) l.before (drop l.item-index l.items))
    ≡ first_of l.fn.found (repeated_aliases l.tables (reach_of l.outer) [] l.items)
