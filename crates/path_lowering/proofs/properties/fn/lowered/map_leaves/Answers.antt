use Rattle.std.proofs.Common.{map}
use Rattle.path_lowering.specs.Shown.{HasProperties}
use Rattle.path_lowering.proofs.HolderSteps.{holder_there}
use Rattle.path_lowering.proofs.properties.fn.lowered.map_leaves.Goals as goal

pub lowered_leaf-requires : goal.lowered_leaf-requires
lowered_leaf-requires c = record {
  letter = c.requires.letter;
  there = holder_there (map (λ p. p.tags.now) c.captures.places.now) (map (λ p. p.spot) c.captures.places.now) c.args.leaf.now.variable
      (HasProperties c.captures.scene.now.catalog.now c.captures.scene.now.graph.now) c.requires.there c.first_tagged.result c.first_tagged.ensures;
}
