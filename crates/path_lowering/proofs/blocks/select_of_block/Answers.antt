use Rattle.std.proofs.Common.{◌≡◌, ◌≤◌, IfOk, List, ℕ, map, length, ap, ap₂, sym, subst, ◌∙◌, Bor}
use Rattle.multisets.specs.Bags.{IsIn}
use Rattle.graph_meaning.specs.Lists.{tagged}
use Rattle.path_lowering.specs.declared.properties.Place.{Place}
use Rattle.path_lowering.specs.declared.spots.Spot.{Spot}
use Rattle.path_lowering.specs.Blocks.{sources_of}
use Rattle.path_lowering.proofs.LayableLemmas.{has_key, has_properties}
use Rattle.path_lowering.proofs.SelectSteps.{select_is}
use Rattle.path_lowering.proofs.blocks.select_of_block.Goals as goal

pub laid_block-requires-clause-names : goal.laid_block-requires-clause-names
laid_block-requires-clause-names c = ap (map (λ (n : Bor (List ℕ)). n.now)) c.as_slice-names.ensures.value ∙ c.in_ok-all.ensures

pub select_of_laid-requires-clause-properties : goal.select_of_laid-requires-clause-properties
select_of_laid-requires-clause-properties c = λ spot h.
    has_properties c.args.scene.now.catalog.now c.args.scene.now.graph.now c.requires.ready.valid spot
    (c.requires.ready.there spot (subst (λ (l : List Spot). IsIn spot l) (ap (map (λ (p : Place). p.spot)) c.as_slice-places.ensures.value ∙ c.in_ok-laid.ensures.spots) h))

pub select_of_laid-requires-clause-keys : goal.select_of_laid-requires-clause-keys
select_of_laid-requires-clause-keys c = λ spot h.
    has_key c.args.scene.now.catalog.now c.args.scene.now.graph.now c.requires.ready.valid spot
    (c.requires.ready.there spot (subst (λ (l : List Spot). IsIn spot l) (ap (map (λ (p : Place). p.spot)) c.as_slice-places.ensures.value ∙ c.in_ok-laid.ensures.spots) h))

pub select_of_laid-requires-clause-alike : goal.select_of_laid-requires-clause-alike
select_of_laid-requires-clause-alike c = λ name a b k h i.
    let spots = ap (map (λ (p : Place). p.spot)) c.as_slice-places.ensures.value ∙ c.in_ok-laid.ensures.spots in
    let tags = ap (map (λ (p : Place). p.tags.now)) c.as_slice-places.ensures.value ∙ c.in_ok-laid.ensures.tags in
    let names = ap (map (λ (n : Bor (List ℕ)). n.now)) c.as_slice-names.ensures.value ∙ c.in_ok-all.ensures in
    c.requires.ready.alike name a b (subst (λ (l : List (List ℕ)). IsIn name l) names k)
    (subst (λ (l : List Spot). IsIn a l) (ap₂ (tagged name) tags spots) h) (subst (λ (l : List Spot). IsIn b l) (ap₂ (tagged name) tags spots) i)

pub select_of_laid-requires-clause-some : goal.select_of_laid-requires-clause-some
select_of_laid-requires-clause-some c =
    subst (λ (l : List Spot). 1 ≤ length (sources_of c.args.scene.now.catalog.now c.args.scene.now.graph.now c.args.scene.now.prefix l))
    (sym (ap (map (λ (p : Place). p.spot)) c.as_slice-places.ensures.value ∙ c.in_ok-laid.ensures.spots)) c.requires.ready.sources

pub returns : goal.returns
returns c =
    subst (λ x. IfOk c.select_of_laid.result (λ select. select ≡ x))
    (select_is c.args.scene.now.catalog.now c.args.scene.now.graph.now c.args.scene.now.prefix c.args.query.now c.args.block.now _ _ _ _
    (ap (map (λ (p : Place). p.tags.now)) c.as_slice-places.ensures.value ∙ c.in_ok-laid.ensures.tags)
    (ap (map (λ (p : Place). p.spot)) c.as_slice-places.ensures.value ∙ c.in_ok-laid.ensures.spots)
    c.in_ok-laid.ensures.conditions
    (ap (map (λ (n : Bor (List ℕ)). n.now)) c.as_slice-names.ensures.value ∙ c.in_ok-all.ensures)) c.select_of_laid.ensures
