use Rattle.std.proofs.Common.{◌≡◌, ◌++◌, drop}
use Rattle.path_lowering.specs.declared.spots.Kind.TheVariants.{Vertex}
use Rattle.path_lowering.specs.Spots.{spots_along}
use Rattle.path_lowering.proofs.laying.spots_along.Given as goal

abbrev pub invariant-loop-i : goal.invariant-loop-i
invariant-loop-i l = l.made.items ++ spots_along l.kind (drop l.i l.elements) (drop l.i l.items) ≡ spots_along Vertex l.elements l.items
