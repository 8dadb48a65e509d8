-- The test of a value at a column's type.
use Rattle.std.proofs.Common.{Decides, rules}
use Rattle.pgq_base.specs.declared.value.Value.{Value}
use Rattle.graph_ast.specs.declared.catalog.ColumnType.{ColumnType}
use Rattle.graph_ast.specs.Fits.{IsWithin}
use Rattle.csv_tables.specs.Within.{is_within}

pub within_tells : (kind : ColumnType) (value : Value) → Decides (is_within kind value) (IsWithin kind value)
within_tells kind value = search rules
