-- What is asked of a catalog and a query whose SELECTs are to have a text.
use Rattle.std.specs.Prelude.{◌≡◌, ◌≤◌, Bool, true, ◌&&◌, length, Some}
use Rattle.multisets.specs.Bags.{IsIn}
use Rattle.expr_tree.specs.declared.tree.Expr.TheOpen.{Expr-F}
use Rattle.expr_tree.specs.declared.tree.Expr.TheFolds.{fold-Expr}
use Rattle.graph_ast.specs.declared.catalog.Catalog.{Catalog}
use Rattle.graph_ast.specs.declared.catalog.Table.{Table}
use Rattle.graph_ast.specs.declared.catalog.Column.{Column}
use Rattle.graph_ast.specs.declared.checked.CheckedPath.{CheckedPath}
use Rattle.graph_ast.specs.declared.checked.CheckedQuery.{CheckedQuery}
use Rattle.graph_ast.specs.declared.checked.Output.{Output}
use Rattle.graph_ast.specs.declared.checked.PropertyLeaf.{PropertyLeaf}
use Rattle.graph_ast.specs.declared.blocks.Alternative.{Alternative}
use Rattle.graph_meaning.specs.Choices.{Condition, Scoped, choices, expansion_of}
use Rattle.sql_algebra.specs.Printable.{is_name, is_literal, has_one, has_two, all_true}

-- literals have a text, AND, OR and COALESCE have two members or more, a list of IN has one or more
abbrev pub spelled_step : Expr-F PropertyLeaf Bool → Bool
spelled_step (Expr-F.Lit v) = is_literal v
spelled_step (Expr-F.Null c) = true
spelled_step (Expr-F.Leaf leaf) = true
spelled_step (Expr-F.Compare op a b) = a && b
spelled_step (Expr-F.All es) = has_two es && all_true es
spelled_step (Expr-F.Any es) = has_two es && all_true es
spelled_step (Expr-F.Not a) = a
spelled_step (Expr-F.Is a test negated) = a
spelled_step (Expr-F.InList a es negated) = a && (has_one es && all_true es)
spelled_step (Expr-F.Between a b c negated) = a && (b && c)
spelled_step (Expr-F.Coalesce es) = has_two es && all_true es

abbrev pub IsSpelled : Condition → Type 0
IsSpelled condition = fold-Expr PropertyLeaf Bool spelled_step condition ≡ true

-- the names of tables and of their columns are names
pub record HasNames (catalog : Catalog) : Type 0 where
  pub tables : (table : Table) → IsIn table catalog.tables → is_name table.name ≡ true
  pub columns : (table : Table) → IsIn table catalog.tables → (column : Column) → IsIn column table.columns → is_name column.name ≡ true

-- the conditions of each choice, the last one and the columns are spelled, of which there are some, with names
pub record IsSpelledQuery (query : CheckedQuery) : Type 0 where
  pub conditions : (path : CheckedPath) → IsIn path query.paths → (choice : Alternative) → IsIn choice (choices path) → (scoped : Scoped)
      → IsIn scoped (expansion_of path choice).conditions
      → IsSpelled scoped.condition
  pub condition : (c : Condition) → query.condition ≡ Some c → IsSpelled c
  pub some : 1 ≤ length query.columns
  pub columns : (output : Output) → IsIn output query.columns → IsSpelled output.value
  pub names : (output : Output) → IsIn output query.columns → is_name output.name ≡ true
