use Rattle.std.proofs.Common.{map}
use Rattle.path_lowering.specs.declared.properties.Place.{Place}
use Rattle.shortest_lowering.proofs.StandingLemmas.{properties_there, key_there, choice_there}
use Rattle.shortest_lowering.proofs.candidate.conditions_of.Goals as goal

pub path_conditions-requires-clause-properties : goal.path_conditions-requires-clause-properties
path_conditions-requires-clause-properties c =
    properties_there c.args.scene.now.catalog.now c.args.scene.now.graph.now c.args.path.now c.args.candidate.now c.requires.standing c.args.spots.now c.requires.spots

pub path_conditions-requires-clause-keys : goal.path_conditions-requires-clause-keys
path_conditions-requires-clause-keys c =
    key_there c.args.scene.now.catalog.now c.args.scene.now.graph.now c.args.path.now c.args.candidate.now c.requires.standing c.args.spots.now c.requires.spots

pub path_conditions-requires-clause-there : goal.path_conditions-requires-clause-there
path_conditions-requires-clause-there c =
    choice_there c.args.scene.now.catalog.now c.args.scene.now.graph.now c.args.path.now c.args.candidate.now c.requires.standing c.args.spots.now c.requires.spots

pub sharing_conditions-requires-clause-keys : goal.sharing_conditions-requires-clause-keys
sharing_conditions-requires-clause-keys c =
    key_there c.args.scene.now.catalog.now c.args.scene.now.graph.now c.args.path.now c.args.candidate.now c.requires.standing
    (map (λ (p : Place). p.spot) c.args.places.now) c.requires.seats
