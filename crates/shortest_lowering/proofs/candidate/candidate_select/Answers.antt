use Rattle.std.proofs.Common.{map, ap, ap₂, ◌∙◌, List}
use Rattle.sql_algebra.specs.declared.tree.Conjunct.TheVariants.{Plain}
use Rattle.sql_algebra.specs.declared.tree.Select.{Select}
use Rattle.path_lowering.specs.Shortest.{ends_across}
use Rattle.path_lowering.specs.Emitted.{SqlCondition}
use Rattle.path_lowering.specs.declared.spots.Spot.{Spot}
use Rattle.path_lowering.proofs.PlacingSteps.{if_ok}
use Rattle.shortest_lowering.specs.Comparable.{candidate_spots, with_conjuncts}
use Rattle.shortest_lowering.proofs.ShorterSteps.{candidate_is}
use Rattle.shortest_lowering.proofs.candidate.candidate_select.Goals as goal

pub returns : goal.returns
returns c =
    let ends = c.in_ok-ends.ensures
    ∙ ap (λ (l : List Spot). ends_across c.args.scene.now.catalog.now c.args.scene.now.graph.now l c.args.outside.now)
    (c.as_slice-spots.ensures.value ∙ c.in_ok-made.ensures) in
    if_ok c.with_conditions.result _ _
    (λ select is. is ∙ ap₂ (λ (s : Select) (l : List SqlCondition). with_conjuncts s (map Plain l)) c.in_ok-select.ensures ends
    ∙ candidate_is c.args.scene.now.catalog.now c.args.scene.now.graph.now c.args.path.now c.args.candidate.now
    (map Plain (ends_across c.args.scene.now.catalog.now c.args.scene.now.graph.now (candidate_spots c.args.candidate.now) c.args.outside.now))) c.with_conditions.ensures
