-- Rows that meet the types of a catalog: what an evaluation asks of an instance, beside a sound query.
use Rattle.std.specs.Prelude.{◌≡◌, ℕ, ◌<◌, ◌^◌, true, length}
use Rattle.std.specs.List.{AllByRecursion}
use Rattle.multisets.specs.Bags.{IsIn}
use Rattle.pgq_base.specs.Instances.{RowValues, InstanceRows, value_at, rows_at}
use Rattle.pgq_base.specs.Values.{IsOf}
use Rattle.graph_ast.specs.declared.catalog.Catalog.{Catalog}
use Rattle.graph_ast.specs.Lookups.{table_at}
use Rattle.graph_ast.specs.Fits.{IsRowOf}
use Rattle.sql_algebra.specs.declared.tree.FromItem.{FromItem}
use Rattle.sql_algebra.specs.declared.tree.ColumnLeaf.{ColumnLeaf}
use Rattle.sql_algebra.specs.Catalogs.{table_named, column_place}
use Rattle.sql_algebra.specs.Soundness.{has_column}
use Rattle.sql_algebra.specs.Tuples.{Bound, Tuple}

-- there are rows for each table of the catalog, by place, and each row has one value for each column, of the column's type
pub record MeetsTypes (catalog : Catalog) (instance : InstanceRows) : Type 0 where
  pub few : length catalog.tables < 2 ^ 32
  pub tables : length instance ≡ length catalog.tables
  pub rows : (place : ℕ) → place < length catalog.tables → (row : RowValues) → IsIn row (rows_at instance place) → IsRowOf (table_at catalog place).columns row

-- each column that a leaf may name has a value of the leaf's class, or Null
abbrev pub IsTypedRow : Catalog → FromItem → RowValues → Type 0
IsTypedRow catalog item row =
    (leaf : ColumnLeaf) → has_column leaf (table_named catalog item.table) ≡ true → IsOf leaf.class (value_at row (column_place catalog item.table leaf.column))

abbrev pub IsTyped : Catalog → Tuple → Type 0
IsTyped catalog tuple = AllByRecursion (λ (bound : Bound). IsTypedRow catalog bound.item bound.row) tuple
