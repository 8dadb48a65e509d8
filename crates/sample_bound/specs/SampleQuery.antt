-- The query that the query text of the generated run stands for.
use Rattle.std.specs.Prelude.{ℕ, true, List, [], ◌∷◌, codes, None, Some}
use Rattle.pgq_base.specs.declared.value.Class.TheVariants.{Number}
use Rattle.expr_tree.specs.declared.tree.Expr.TheVariants.{Leaf}
use Rattle.graph_ast.specs.declared.checked.CheckedPath.{CheckedPath}
use Rattle.graph_ast.specs.declared.checked.CheckedQuery.{CheckedQuery}
use Rattle.graph_ast.specs.declared.checked.Output.{Output}
use Rattle.graph_ast.specs.declared.checked.Pattern.{Pattern}
use Rattle.graph_ast.specs.declared.checked.Piece.TheVariants.{Vertex, Edge}
use Rattle.graph_ast.specs.declared.checked.Step.TheVariants.{One, Part}
use Rattle.graph_ast.specs.declared.query.Direction.TheVariants.{Right}
use Rattle.graph_ast.specs.declared.query.Mode.TheVariants.{Walk}

abbrev pub named : List ℕ → Pattern
named variable = record { variable = Some variable; label = None }

-- ALL SHORTEST (x)-[e]->{1,2}(y)
abbrev pub sample_path : CheckedPath
sample_path = record {
  mode = Walk;
  all_shortest = true;
  operands = record {
    steps = One (Vertex (named (codes "X"))) ∷ Part 1 2 (Edge Right (named (codes "E")) ∷ []) [] ∷ One (Vertex (named (codes "Y"))) ∷ [];
    conditions = [];
  } ∷ [];
}

-- variable.id AS name
abbrev pub key_of : List ℕ → List ℕ → Output
key_of variable name = record { value = Leaf (record { variable = variable; property = codes "ID"; class = Number; test = None }); name = name }

unfoldable pub sample_checked : CheckedQuery
sample_checked = record {
  graph = 0;
  paths = sample_path ∷ [];
  condition = None;
  columns = key_of (codes "X") (codes "F") ∷ key_of (codes "Y") (codes "T") ∷ [];
  weight = 23;
}
