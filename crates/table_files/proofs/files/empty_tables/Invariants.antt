use Rattle.std.proofs.Common.{◌≡◌, map, take}
use Rattle.graph_ast.specs.Fits.{no_rows}
use Rattle.csv_tables.specs.Outcomes.{rows_of}
use Rattle.table_files.proofs.files.empty_tables.Given as goal

abbrev pub invariant-loop-table : goal.invariant-loop-table
invariant-loop-table l = map rows_of l.tables ≡ map no_rows (take l._table-index l._table-items)
