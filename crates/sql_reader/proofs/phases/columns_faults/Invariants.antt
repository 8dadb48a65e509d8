use Rattle.std.proofs.Common.{◌≡◌, drop}
use Rattle.std.specs.List.{flat_map}
use Rattle.first_faults.specs.Faults.{first_of}
use Rattle.sql_reader.specs.Levels.{reach_of}
use Rattle.sql_reader.specs.Phases.{value_faults}
use Rattle.sql_reader.proofs.phases.columns_faults.Given as goal

abbrev pub invariant-loop-column : goal.invariant-loop-column
invariant-loop-column l = first_of l.found (flat_map (λ column. value_faults l.phase (reach_of l.scope) column.value) (drop l.column-index l.columns))
    ≡ first_of l.fn.found (flat_map (λ column. value_faults l.phase (reach_of l.scope) column.value) l.columns)
