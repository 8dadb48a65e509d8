-- When the rows of an instance are rows of their tables' columns: what `Fits` asks but for keys and references.
use Rattle.std.specs.Prelude.{◌≡◌, ℕ, ◌<◌, length}
use Rattle.pgq_base.specs.Instances.{RowValues, InstanceRows, rows_at}
use Rattle.multisets.specs.Bags.{IsIn}
use Rattle.graph_ast.specs.declared.catalog.Catalog.{Catalog}
use Rattle.graph_ast.specs.Fits.{IsRowOf}
use Rattle.graph_ast.specs.Lookups.{table_at}

-- the instance has rows for each table of the catalog, by place, and each is a row of the table's columns
pub record IsTyped (catalog : Catalog) (instance : InstanceRows) : Type 0 where
  pub tables : length instance ≡ length catalog.tables
  pub rows : (place : ℕ) → place < length catalog.tables → (row : RowValues) → IsIn row (rows_at instance place)
      → IsRowOf (table_at catalog place).columns row
