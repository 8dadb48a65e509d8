use Rattle.std.proofs.Common.{◌≡◌, ◌++◌, map, drop}
use Rattle.sql_reader.proofs.tables.table_names.Given as goal

abbrev pub invariant-loop-table : goal.invariant-loop-table
invariant-loop-table l = l.names ++ map (λ t. t.name) (drop l.table-index l.tables) ≡ map (λ t. t.name) l.tables
