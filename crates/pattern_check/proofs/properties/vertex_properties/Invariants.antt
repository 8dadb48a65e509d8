use Rattle.std.proofs.Common.{◌≡◌, ◌++◌, drop}
use Rattle.std.specs.List.{flat_map}
use Rattle.pattern_check.specs.ByName.{property_names}
use Rattle.pattern_check.proofs.properties.vertex_properties.Given as goal

abbrev pub invariant-loop-element : goal.invariant-loop-element
invariant-loop-element l = l.names ++ flat_map property_names (drop l.element-index l.elements) ≡ flat_map property_names l.elements
