use Rattle.std.proofs.Common.{◌≡◌, ◌++◌, drop, map}
use Rattle.graph_ast.specs.declared.catalog.EdgeElement.{EdgeElement}
use Rattle.pattern_check.specs.Graphs.{class_among, property_class}
use Rattle.pattern_check.proofs.classes.property_class.Given as goal

abbrev pub invariant-loop-element : goal.invariant-loop-element
invariant-loop-element l =
    class_among l.catalog l.property (drop l.element-index l.graph.vertices ++ map (λ (edge : EdgeElement). edge.element) l.graph.edges) ≡
    property_class l.catalog l.graph l.property
