use Rattle.std.proofs.Common.{◌≡◌, ◌++◌, drop}
use Rattle.sql_reader.proofs.tables.named_tables.Given as goal

abbrev pub invariant-loop-table : goal.invariant-loop-table
invariant-loop-table l = l.named.items ++ drop l.table-index l.tables ≡ l.tables
