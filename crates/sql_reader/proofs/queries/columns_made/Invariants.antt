use Rattle.std.proofs.Common.{◌≡◌, ◌++◌, map, drop}
use Rattle.sql_reader.specs.Levels.{reach_of}
use Rattle.sql_reader.specs.Queries.{column_made}
use Rattle.sql_reader.proofs.queries.columns_made.Given as goal

abbrev pub invariant-loop-column : goal.invariant-loop-column
invariant-loop-column l = l.made ++ map (column_made (reach_of l.scope)) (drop l.column-index l.columns) ≡ map (column_made (reach_of l.scope)) l.columns
