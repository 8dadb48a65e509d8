-- The query that a text writes down, and what is answered for it.
use Rattle.std.specs.Prelude.{List, [], ◌∷◌, ◌++◌, map, option_map, Option, None, Some, Result, Ok, Err}
use Rattle.pgq_base.specs.declared.refusal.Refusal.{Refusal}
use Rattle.pgq_base.specs.declared.refusal.Role.TheVariants.{Sql}
use Rattle.pgq_base.specs.declared.refusal.Detail.TheVariants as detail
use Rattle.expr_tree.specs.declared.tree.Expr.{Expr}
use Rattle.expr_tree.specs.declared.tree.Expr.TheVariants.{Leaf}
use Rattle.expr_tree.specs.Mapping.{mapped}
use Rattle.graph_ast.specs.declared.catalog.Catalog.{Catalog}
use Rattle.condition_grammar.specs.declared.spanned.Spanned.{Spanned}
use Rattle.sql_algebra.specs.declared.tree.SqlQuery.{SqlQuery}
use Rattle.sql_algebra.specs.declared.tree.Select.{Select}
use Rattle.sql_algebra.specs.declared.tree.SelectColumn.{SelectColumn}
use Rattle.sql_algebra.specs.declared.tree.FromItem.{FromItem}
use Rattle.sql_algebra.specs.declared.tree.Conjunct.{Conjunct}
use Rattle.sql_algebra.specs.declared.tree.Conjunct.TheVariants.{Plain, NotExists}
use Rattle.sql_algebra.specs.declared.tree.ColumnLeaf.{ColumnLeaf}
use Rattle.sql_algebra.specs.declared.text.SqlText.{SqlText}
use Rattle.sql_algebra.specs.declared.text.SelectText.{SelectText, SelectText-F, fold-SelectText}
use Rattle.sql_algebra.specs.declared.text.ColumnText.{ColumnText}
use Rattle.sql_algebra.specs.declared.text.ItemText.{ItemText}
use Rattle.sql_algebra.specs.declared.text.ConjunctText.{ConjunctText, ConjunctText-F, fold-ConjunctText}
use Rattle.sql_algebra.specs.declared.text.ColumnRef.{ColumnRef}
use Rattle.first_faults.specs.declared.faults.Fault.{Fault}
use Rattle.sql_reader.specs.Reaches.{Reach, reach_within}
use Rattle.sql_reader.specs.Types.{leaf_class}
use Rattle.sql_reader.specs.Phases.{chain_to, first_fault}

-- a leaf with the class that its column has in the catalog
abbrev pub leaf_made : Reach → ColumnRef → Expr ColumnLeaf
leaf_made reach leaf = Leaf (record { alias = leaf.alias.name; column = leaf.column.name; class = leaf_class reach leaf })

abbrev pub value_made : Reach → Spanned ColumnRef → Expr ColumnLeaf
value_made reach value = mapped (leaf_made reach) value.tree

abbrev pub column_made : Reach → ColumnText → SelectColumn
column_made reach column = record { value = value_made reach column.value; name = column.name.name }

-- an item, where its chain up to it and the outer items are in reach
abbrev pub item_made : Reach → ItemText → FromItem
item_made reach item = record { table = item.table.name; alias = item.alias.name; on = option_map (map (value_made reach)) item.on }

abbrev pub items_made : Catalog → Reach → Reach → List ItemText → List FromItem
items_made catalog outer before [] = []
items_made catalog outer before (item ∷ items) =
    let chain = chain_to catalog before item item.on in
    item_made (chain ++ outer) item ∷ items_made catalog outer chain items

abbrev pub conjunct_step : ConjunctText-F (Reach → Conjunct) (Reach → Select) → Reach → Conjunct
conjunct_step (ConjunctText-F.Plain condition) reach = Plain (value_made reach condition)
conjunct_step (ConjunctText-F.NotExists select) reach = NotExists (select reach)

abbrev pub select_step : Catalog → SelectText-F (Reach → Conjunct) (Reach → Select) → Reach → Select
select_step catalog select outer =
    let reach = reach_within catalog outer select.from in
    record {
      columns = map (column_made reach) select.columns;
      from = items_made catalog outer [] select.from;
      conjuncts = map (λ conjunct. conjunct reach) select.conjuncts;
    }

abbrev pub select_made : Catalog → SelectText → Reach → Select
select_made catalog = fold-SelectText (Reach → Conjunct) (Reach → Select) conjunct_step (select_step catalog)

abbrev pub conjunct_made : Catalog → ConjunctText → Reach → Conjunct
conjunct_made catalog = fold-ConjunctText (Reach → Conjunct) (Reach → Select) conjunct_step (select_step catalog)

-- the query that a text without faults writes down
abbrev pub query_of : Catalog → SqlText → SqlQuery
query_of catalog text = record { selects = map (λ select. select_made catalog select []) text.selects }

abbrev pub refused : Fault → Refusal
refused f = record { role = Sql; span = f.span; code = f.code; detail = detail.Nothing }

abbrev pub query_unless : SqlQuery → Option Fault → Result SqlQuery Refusal
query_unless query None = Ok query
query_unless query (Some f) = Err (refused f)

-- what is due for a text in a catalog: its query, or the refusal of its first fault
unfoldable pub due : Catalog → SqlText → Result SqlQuery Refusal
due catalog text = query_unless (query_of catalog text) (first_fault catalog text)
