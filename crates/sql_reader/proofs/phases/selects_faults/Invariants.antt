use Rattle.std.proofs.Common.{◌≡◌, drop}
use Rattle.std.specs.List.{flat_map}
use Rattle.first_faults.specs.Faults.{first_of}
use Rattle.sql_reader.specs.Levels.{reach_of}
use Rattle.sql_reader.specs.Phases.{select_faults}
use Rattle.sql_reader.proofs.phases.selects_faults.Given as goal

abbrev pub invariant-loop-select : goal.invariant-loop-select
invariant-loop-select l = first_of l.found (flat_map (λ select. select_faults l.phase l.tables select (reach_of l.outer)) (drop l.select-index l.selects))
    ≡ first_of l.fn.found (flat_map (λ select. select_faults l.phase l.tables select (reach_of l.outer)) l.selects)
