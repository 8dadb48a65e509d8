-- The conditions of paths along their places, and the columns where there is no block.
use Rattle.std.specs.Prelude.{ℕ, List, ◌++◌, flat_map}
use Rattle.graph_ast.specs.declared.catalog.Catalog.{Catalog}
use Rattle.graph_ast.specs.declared.catalog.Graph.{Graph}
use Rattle.graph_ast.specs.declared.checked.Output.{Output}
use Rattle.expr_tree.specs.declared.tree.Expr.TheVariants.{Null}
use Rattle.expr_tree.specs.Classes.{class_in}
use Rattle.sql_algebra.specs.declared.tree.SelectColumn.{SelectColumn}
use Rattle.path_lowering.specs.Emitted.{SqlCondition, mode_conditions}
use Rattle.path_lowering.specs.Blocks.{Laid}

-- the conditions of a path along its places: those of the alternatives and of the mode
unfoldable pub conditions_of : Catalog → Graph → ℕ → Laid → List SqlCondition
conditions_of catalog graph prefix laid = laid.conditions ++ mode_conditions catalog graph prefix laid.path.mode laid.spots

-- those of some paths
abbrev pub conditions_along : Catalog → Graph → ℕ → List Laid → List SqlCondition
conditions_along catalog graph prefix parts = flat_map (conditions_of catalog graph prefix) parts

-- the column of an output where there is no block
abbrev pub null_of : Output → SelectColumn
null_of output = record { value = Null (class_in (λ leaf. leaf.class) output.value); name = output.name }
