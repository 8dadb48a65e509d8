use Rattle.std.proofs.Common.{◌≡◌, ◌++◌, map, drop}
use Rattle.std.specs.List.{flat_map}
use Rattle.graph_ast.specs.declared.catalog.EdgeElement.{EdgeElement}
use Rattle.pattern_check.specs.ByName.{property_names}
use Rattle.pattern_check.proofs.properties.edge_properties.Given as goal

abbrev pub invariant-loop-edge : goal.invariant-loop-edge
invariant-loop-edge l =
    l.names ++ flat_map property_names (map (λ (edge : EdgeElement). edge.element) (drop l.edge-index l.edges)) ≡
    flat_map property_names (map (λ (edge : EdgeElement). edge.element) l.edges)
