use Rattle.std.proofs.Common.{◌≡◌, drop}
use Rattle.std.specs.List.{flat_map}
use Rattle.first_faults.specs.Faults.{first_of}
use Rattle.sql_reader.specs.Phases.{later_faults}
use Rattle.sql_reader.proofs.unions.each_later.Given as goal

abbrev pub invariant-loop-select : goal.invariant-loop-select
invariant-loop-select l = first_of l.found (flat_map (later_faults l.tables l.classes) (drop l.select-index l.later))
    ≡ first_of l.fn.found (flat_map (later_faults l.tables l.classes) l.later)
