use Rattle.std.proofs.Common.{map}
use Rattle.path_lowering.specs.Shown.{HasProperties}
use Rattle.path_lowering.proofs.ScopeSteps.{scoped_there}
use Rattle.path_lowering.proofs.scopes.fn.scoped.map_leaves.Goals as goal

pub lowered_leaf-requires : goal.lowered_leaf-requires
lowered_leaf-requires c = record {
  letter = c.requires.letter;
  there = scoped_there (map (λ p. (p.place, p.piece.now)) c.captures.scope.now) c.captures.spots.now c.args.leaf.now.variable
      (HasProperties c.captures.scene.now.catalog.now c.captures.scene.now.graph.now) c.requires.there c.spot_in.result c.spot_in.ensures;
}
