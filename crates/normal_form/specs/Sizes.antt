-- The parts of a choice's size.
use Rattle.std.specs.Prelude.{ℕ, ◌+◌, List}
use Rattle.std.specs.List.{sum_by}
use Rattle.expr_tree.specs.Nodes.{count_of_nodes}
use Rattle.graph_ast.specs.declared.query.Mode.{Mode}
use Rattle.graph_meaning.specs.Choices.{Iteration, Expansion, place_count}
use Rattle.graph_meaning.specs.Weights.{compared_pairs}

-- the nodes of the conditions of some iterations
abbrev pub nodes_in : List Iteration → ℕ
nodes_in parts = sum_by (λ part. sum_by count_of_nodes part.conditions) parts

-- the places, the nodes of the conditions and the compared pairs of what a choice expands to
abbrev pub expansion_size : Mode → Expansion → ℕ
expansion_size mode expansion =
    place_count expansion + sum_by (λ scoped. count_of_nodes scoped.condition) expansion.conditions + compared_pairs mode expansion.edges
