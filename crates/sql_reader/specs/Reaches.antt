-- What the names in an SQL text stand for.
use Rattle.std.specs.Prelude.{ℕ, List, ◌++◌, map, find, Option, bytes_eq}
use Rattle.graph_ast.specs.declared.catalog.Catalog.{Catalog}
use Rattle.graph_ast.specs.declared.catalog.Table.{Table}
use Rattle.sql_algebra.specs.declared.text.ItemText.{ItemText}
use Rattle.sql_algebra.specs.Catalogs.{table_named}

-- an item of a FROM: its alias, and the table that it names, where the catalog has one
pub record Placed : Type 0 where
  pub alias : List ℕ
  pub table : Option Table

-- The items in reach: those of a select in order, and behind them those of the select around it, and so on.
abbrev pub Reach : Type 0
Reach = List Placed

abbrev pub placed : Catalog → ItemText → Placed
placed catalog item = record { alias = item.alias.name; table = table_named catalog item.table.name }

-- the items of a FROM
abbrev pub items_placed : Catalog → List ItemText → Reach
items_placed catalog items = map (placed catalog) items

-- the reach of a select's columns and of its WHERE: the items of its FROM, and the outer ones
abbrev pub reach_within : Catalog → Reach → List ItemText → Reach
reach_within catalog outer items = items_placed catalog items ++ outer

-- the item of an alias: of equal ones the first counts
abbrev pub item_of : Reach → List ℕ → Option Placed
item_of reach alias = find (λ item. bytes_eq item.alias alias) reach
