use Rattle.std.proofs.Common.{◌≡◌, ◌+◌, ◌*◌, Option, length, ap, ap₂, sym, subst, ◌∙◌}
use Rattle.std.specs.List.{fold}
use Rattle.graph_meaning.specs.Choices.{tags_of}
use Rattle.graph_meaning.specs.Blocks.{complete}
use Rattle.graph_meaning.specs.Weights.{choice_size}
use Rattle.normal_form.specs.declared.search.Found.{Found}
use Rattle.normal_form.specs.Found.{IsFound, IsAllFound, prefixes}
use Rattle.normal_form.specs.Merged.{with_finding}
use Rattle.normal_form.specs.Spending.{counted}
use Rattle.normal_form.proofs.Merging.{shapes_found}
use Rattle.normal_form.proofs.PayLemmas.{choice_paid}
use Rattle.normal_form.proofs.path_weight.weigh_choice.Goals as goal

pub returns-in_ok-merged-in-Some-spend : goal.returns-in_ok-merged-in-Some-spend
returns-in_ok-merged-in-Some-spend c =
    let graph = c.args.ground.now.graph.now in
    let path = c.args.path.now in
    let choice = c.args.choice.now in
    let expanded = c.in_ok-expanded.expanded in
    let found : IsAllFound graph expanded.path.now expanded.choice.now c.args.gathering.left c.in-Some.found = subst
    (λ (o : Option Found). IsFound graph expanded.path.now expanded.choice.now c.args.gathering.left o) c.in-Some.is c.in_ok-search.ensures in
    let same = ap₂ (complete graph) c.in_ok-expanded.ensures.path c.in_ok-expanded.ensures.choice in
    let count = found.count ∙ ap₂ (prefixes graph) c.in_ok-expanded.ensures.path c.in_ok-expanded.ensures.choice in
    let number : length c.as_slice-number.result.now ≡ length (complete graph path choice) = ap length (c.as_slice-number.ensures ∙ found.complete ∙ same) in
    let all : c.as_slice-in-Some-spend.result.now ≡ complete graph path choice = c.as_slice-in-Some-spend.ensures ∙ found.complete ∙ same in
    let tags : c.as_slice.result.now ≡ tags_of path choice = c.as_slice.ensures ∙ c.in_ok-expanded.ensures.value.tags in
    let cost : c.sum-cost.result ≡ counted (prefixes graph path choice + counted (length (complete graph path choice) * choice_size path choice)) =
    c.sum-cost.ensures ∙ ap₂ (λ a b. counted (a + b)) count (c.places_weight.ensures ∙ ap (λ n. counted (n * choice_size path choice)) number) in
    record {
      left = choice_paid c.args.gathering.left (prefixes graph path choice) (length (complete graph path choice) * choice_size path choice) c.sum-cost.result
          c.in-Some-spend.left c.requires.few cost (sym c.spend.ensures ∙ c.in-Some-spend.is);
      kept = c.in_ok-merged-in-Some-spend.ensures.kept;
      blocks = c.in_ok-merged-in-Some-spend.ensures.blocks
          ∙ ap (fold (with_finding c.args.place) c.args.gathering.merged.blocks.items)
          (shapes_found graph path choice c.as_slice.result.now c.as_slice-in-Some-spend.result.now tags all);
    }
