use Rattle.std.proofs.Common.{◌≡◌, ◌+◌, ◌<◌, ℕ, Option, subst, ◌∙◌}
use Rattle.std.specs.List.{sum_by}
use Rattle.graph_meaning.specs.Choices.{choices}
use Rattle.normal_form.specs.declared.path_weight.Gathering.{Gathering}
use Rattle.normal_form.specs.Merged.{findings, gathered}
use Rattle.normal_form.specs.Paying.{choice_weight, IsGathered, IsGathering}
use Rattle.normal_form.proofs.BlocksGathered.{blocks_gathered}
use Rattle.normal_form.proofs.PayLemmas.{path_weight_is}
use Rattle.normal_form.proofs.path_weight.weigh_path.Goals as goal

pub returns-in-None : goal.returns-in-None
returns-in-None c =
    let graph = c.args.graph.now in
    let path = c.args.path.now in
    let over : c.args.amount < sum_by (choice_weight graph path) (choices path) = subst
    (λ (o : Option Gathering). IsGathered c.args.amount (sum_by (choice_weight graph path) (choices path)) (gathered c.args.place (findings graph path)) o) c.in-None.is
    c.in_ok-weigh_choices.ensures in
    subst (λ (n : ℕ). c.args.amount < n) (path_weight_is graph path) over

pub returns : goal.returns
returns c =
    let graph = c.args.graph.now in
    let path = c.args.path.now in
    let all : IsGathering c.args.amount (sum_by (choice_weight graph path) (choices path)) (gathered c.args.place (findings graph path)) c.in-Some.gathering = subst
    (λ (o : Option Gathering). IsGathered c.args.amount (sum_by (choice_weight graph path) (choices path)) (gathered c.args.place (findings graph path)) o)
    c.in-Some.is c.in_ok-weigh_choices.ensures in
    record {
      left = subst (λ (n : ℕ). c.in-Some.gathering.left + n ≡ c.args.amount) (path_weight_is graph path) all.left;
      blocks = c.into_blocks.ensures ∙ all.blocks ∙ blocks_gathered graph path c.args.place;
    }
