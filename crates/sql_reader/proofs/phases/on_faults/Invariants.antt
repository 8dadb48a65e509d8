use Rattle.std.proofs.Common.{◌≡◌, [], drop}
use Rattle.first_faults.specs.Faults.{first_of}
use Rattle.sql_reader.specs.Levels.{reach_of}
use Rattle.sql_reader.specs.Phases.{on_faults}
use Rattle.sql_reader.proofs.phases.on_faults.Given as goal

abbrev pub invariant-loop-item : goal.invariant-loop-item
invariant-loop-item l = first_of l.found (on_faults l.phase l.tables (reach_of l.outer) l.chain (drop l.item-index l.items))
    ≡ first_of l.fn.found (on_faults l.phase l.tables (reach_of l.outer) [] l.items)
