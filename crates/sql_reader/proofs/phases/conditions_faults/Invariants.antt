use Rattle.std.proofs.Common.{◌≡◌, drop}
use Rattle.std.specs.List.{flat_map}
use Rattle.first_faults.specs.Faults.{first_of}
use Rattle.sql_reader.specs.Levels.{reach_of}
use Rattle.sql_reader.specs.Phases.{condition_faults}
use Rattle.sql_reader.proofs.phases.conditions_faults.Given as goal

abbrev pub invariant-loop-condition : goal.invariant-loop-condition
invariant-loop-condition l = first_of l.found (flat_map (condition_faults l.phase (reach_of l.scope)) (drop l.condition-index l.conditions))
    ≡ first_of l.fn.found (flat_map (condition_faults l.phase (reach_of l.scope)) l.conditions)
