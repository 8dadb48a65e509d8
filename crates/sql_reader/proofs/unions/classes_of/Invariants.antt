use Rattle.std.proofs.Common.{◌≡◌, ◌++◌, map, drop}
use Rattle.sql_reader.specs.Levels.{reach_of}
use Rattle.sql_reader.specs.Types.{class_of_value}
use Rattle.sql_reader.proofs.unions.classes_of.Given as goal

abbrev pub invariant-loop-column : goal.invariant-loop-column
invariant-loop-column l = l.classes ++ map (λ column. class_of_value (reach_of l.scope) column.value) (drop l.column-index l.columns)
    ≡ map (λ column. class_of_value (reach_of l.scope) column.value) l.columns
