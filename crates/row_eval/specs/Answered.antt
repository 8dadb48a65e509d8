-- The answer of an evaluation: the rows of each select, one after another.
use Rattle.std.specs.Prelude.{◌≡◌, ℕ, ◌+◌, ◌<◌, ◌≤◌, Bool, true, false, List, ◌++◌, map, length}
use Rattle.pgq_base.specs.declared.rows.Row.{Row}
use Rattle.pgq_base.specs.Instances.{TableRows}
use Rattle.expr_tree.specs.Mapping.{mapped}
use Rattle.graph_ast.specs.declared.catalog.Catalog.{Catalog}
use Rattle.sql_algebra.specs.declared.tree.SelectColumn.{SelectColumn}
use Rattle.row_eval.specs.declared.frame.Output.{Output}
use Rattle.row_eval.specs.Scopes.{Placed, leaf_expr_of}
use Rattle.row_eval.specs.Stored.{row_values}

-- the columns with a slot in place of each leaf
abbrev pub AreOutputsOf : Catalog → List Placed → List SelectColumn → List Output → Type 0
AreOutputsOf catalog reach columns outputs =
    map (λ (o : Output). o.expr) outputs ≡ map (λ (column : SelectColumn). mapped (leaf_expr_of catalog reach) column.value) columns

-- The rows are put behind those that are there, and there are no more than the limit; or there are more.
abbrev pub Answers : ℕ → List Row → List Row → TableRows → Bool → Type 0
Answers limit old new rows true = (row_values new ≡ row_values old ++ rows) × (length old ≤ limit → length new ≤ limit)
Answers limit old new rows false = limit < length old + length rows
