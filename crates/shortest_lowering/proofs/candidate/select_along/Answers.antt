use Rattle.std.proofs.Common.{◌++◌, List, map, length, ap, ◌∙◌}
use Rattle.path_lowering.specs.declared.properties.Place.{Place}
use Rattle.path_lowering.proofs.PlacingSteps.{if_ok}
use Rattle.shortest_lowering.proofs.StandingLemmas.{properties_there, spots_there}
use Rattle.shortest_lowering.proofs.ShorterSteps.{select_same}
use Rattle.shortest_lowering.proofs.candidate.select_along.Goals as goal

pub add_places-requires : goal.add_places-requires
add_places-requires c =
    ap length c.as_slice.ensures
    ∙ spots_there c.args.scene.now.catalog.now c.args.scene.now.graph.now c.args.path.now c.args.candidate.now c.requires.standing c.args.spots.now c.requires.spots

pub select_of-requires-clause-there : goal.select_of-requires-clause-there
select_of-requires-clause-there c =
    properties_there c.args.scene.now.catalog.now c.args.scene.now.graph.now c.args.path.now c.args.candidate.now c.requires.standing
    (map (λ (p : Place). p.spot) c.as_slice-places.result.now)
    (ap (map (λ (p : Place). p.spot)) c.as_slice-places.ensures.value ∙ c.in_ok-made.ensures.spots
    ∙ ap (λ (l : List Place). map (λ p. p.spot) l ++ c.args.spots.now) c.new.ensures.items ∙ c.requires.spots)

pub returns : goal.returns
returns c =
    if_ok c.select_of.result _ _
    (λ select is. is ∙ select_same c.args.scene.now.catalog.now c.args.scene.now.graph.now c.args.scene.now.prefix _ _ _ _ _ _ _ _
    (ap (map (λ (p : Place). p.tags.now)) c.as_slice-places.ensures.value ∙ c.in_ok-made.ensures.tags
    ∙ ap (λ (l : List Place). map (λ p. p.tags.now) l ++ c.as_slice.result.now) c.new.ensures.items ∙ c.as_slice.ensures)
    (ap (map (λ (p : Place). p.spot)) c.as_slice-places.ensures.value ∙ c.in_ok-made.ensures.spots
    ∙ ap (λ (l : List Place). map (λ p. p.spot) l ++ c.args.spots.now) c.new.ensures.items ∙ c.requires.spots)
    c.in_ok-conditions.ensures
    (c.as_slice-2.ensures ∙ c.in_ok-columns.ensures)) c.select_of.ensures
