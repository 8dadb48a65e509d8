use Rattle.std.proofs.Common.{◌≡◌, ◌++◌, map, drop}
use Rattle.graph_ast.specs.declared.catalog.Property.{Property}
use Rattle.pattern_check.specs.ByName.{property_names}
use Rattle.pattern_check.proofs.properties.with_element.Given as goal

abbrev pub invariant-loop-property : goal.invariant-loop-property
invariant-loop-property l = l.names ++ map (λ (p : Property). p.name) (drop l.property-index l.element.properties) ≡ l.fn.names ++ property_names l.element
