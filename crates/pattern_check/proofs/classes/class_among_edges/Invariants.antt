use Rattle.std.proofs.Common.{◌≡◌, drop, map}
use Rattle.graph_ast.specs.declared.catalog.EdgeElement.{EdgeElement}
use Rattle.pattern_check.specs.Graphs.{class_among}
use Rattle.pattern_check.proofs.classes.class_among_edges.Given as goal

abbrev pub invariant-loop-edge : goal.invariant-loop-edge
invariant-loop-edge l =
    class_among l.catalog l.property (map (λ (edge : EdgeElement). edge.element) (drop l.edge-index l.edges)) ≡
    class_among l.catalog l.property (map (λ (edge : EdgeElement). edge.element) l.edges)
