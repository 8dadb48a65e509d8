-- The faults of names in an SQL text: SQL's rules on the names of tables, aliases and columns.
use Rattle.std.specs.Prelude.{ℕ, not, true, List, [], ◌∷◌, ◌++◌, flat_map, Option, None, Some, is_some}
use Rattle.pgq_base.specs.declared.code.Code.TheVariants as code
use Rattle.expr_tree.specs.Leaves.{leaves_in}
use Rattle.graph_ast.specs.declared.catalog.Catalog.{Catalog}
use Rattle.graph_ast.specs.declared.catalog.Table.{Table}
use Rattle.condition_grammar.specs.declared.spanned.Spanned.{Spanned}
use Rattle.sql_algebra.specs.declared.text.ColumnText.{ColumnText}
use Rattle.sql_algebra.specs.declared.text.ItemText.{ItemText}
use Rattle.sql_algebra.specs.declared.text.ColumnRef.{ColumnRef}
use Rattle.sql_algebra.specs.Catalogs.{table_named, column_named}
use Rattle.first_faults.specs.declared.faults.Fault.{Fault}
use Rattle.first_faults.specs.Faults.{when}
use Rattle.sql_algebra.specs.Soundness.{is_in}
use Rattle.sql_reader.specs.Reaches.{Placed, Reach, placed, item_of}

-- no FROM in reach has the leaf's alias
abbrev pub unknown_alias : ColumnRef → List Fault
unknown_alias leaf = when true code.UnknownColumn leaf.alias.span

-- the column is not in the table of the leaf's alias; it is not looked at where there is no such table
abbrev pub unknown_column : ColumnRef → Option Table → List Fault
unknown_column leaf None = []
unknown_column leaf (Some table) = when (not (is_some (column_named table leaf.column.name))) code.UnknownColumn leaf.column.span

abbrev pub leaf_at : ColumnRef → Option Placed → List Fault
leaf_at leaf None = unknown_alias leaf
leaf_at leaf (Some item) = unknown_column leaf item.table

abbrev pub leaf_names : Reach → ColumnRef → List Fault
leaf_names reach leaf = leaf_at leaf (item_of reach leaf.alias.name)

abbrev pub value_names : Reach → Spanned ColumnRef → List Fault
value_names reach value = flat_map (leaf_names reach) (leaves_in value.tree)

-- a FROM names no table
abbrev pub unknown_table : Catalog → ItemText → List Fault
unknown_table catalog item = when (not (is_some (table_named catalog item.table.name))) code.UnknownTable item.table.span

-- an alias stands already in its FROM, on one of the items before, or in that of a select around it
abbrev pub repeated_aliases : Catalog → Reach → Reach → List ItemText → List Fault
repeated_aliases catalog outer before [] = []
repeated_aliases catalog outer before (item ∷ items) =
    when (is_some (item_of (before ++ outer) item.alias.name)) code.DuplicateColumnName item.alias.span
    ++ repeated_aliases catalog outer (before ++ placed catalog item ∷ []) items

-- a column's name stands already on a column of its select, on one of those before
abbrev pub repeated_columns : List (List ℕ) → List ColumnText → List Fault
repeated_columns before [] = []
repeated_columns before (column ∷ columns) =
    when (is_in column.name.name before) code.DuplicateColumnName column.name.span ++ repeated_columns (before ++ column.name.name ∷ []) columns
