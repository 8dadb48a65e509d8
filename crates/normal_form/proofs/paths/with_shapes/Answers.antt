use Rattle.std.proofs.Common.{◌≡◌, IfOk, Option, ap₂, subst, ◌∙◌, List}
use Rattle.std.specs.List.{fold}
use Rattle.graph_meaning.specs.Choices.{tags_of}
use Rattle.graph_meaning.specs.Blocks.{complete}
use Rattle.normal_form.specs.declared.search.Found.{Found}
use Rattle.normal_form.specs.Found.{IsFound, IsAllFound}
use Rattle.normal_form.specs.Merged.{Finding, with_finding}
use Rattle.normal_form.proofs.Merging.{shapes_found}
use Rattle.normal_form.proofs.paths.with_shapes.Goals as goal

pub returns-in-Some-clause-blocks : goal.returns-in-Some-clause-blocks
returns-in-Some-clause-blocks c =
    let graph = c.args.ground.now.graph.now in
    let path = c.args.path.now in
    let choice = c.args.choice.now in
    let expanded = c.in_ok-expanded.expanded in
    let found : IsAllFound graph expanded.path.now expanded.choice.now _ c.in-Some.found = subst
    (λ (o : Option Found). IsFound graph expanded.path.now expanded.choice.now _ o) c.in-Some.is c.in_ok-search.ensures in
    let all : c.as_slice-in-Some.result.now ≡ complete graph path choice =
    c.as_slice-in-Some.ensures ∙ found.complete ∙ ap₂ (complete graph) c.in_ok-expanded.ensures.path c.in_ok-expanded.ensures.choice in
    let tags : c.as_slice.result.now ≡ tags_of path choice = c.as_slice.ensures ∙ c.in_ok-expanded.ensures.value.tags in
    subst (λ (l : List Finding). IfOk c.put_all.result (λ more. more.blocks.items ≡ fold (with_finding c.args.place) c.args.merged.blocks.items l))
    (shapes_found graph path choice c.as_slice.result.now c.as_slice-in-Some.result.now tags all) c.put_all.ensures.blocks
