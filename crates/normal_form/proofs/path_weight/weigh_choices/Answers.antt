use Rattle.std.proofs.Common.{◌≤◌, ◌<◌, Option, List, map, subst, arith}
use Rattle.std.specs.List.{fold, sum_by}
use Rattle.graph_ast.specs.declared.blocks.Alternative.{Alternative}
use Rattle.multisets.specs.Bags.{IsIn}
use Rattle.graph_meaning.specs.Blocks.{Shape, shapes_of}
use Rattle.normal_form.specs.declared.path_weight.Gathering.{Gathering}
use Rattle.normal_form.specs.Merged.{Finding, with_finding, findings, gathered}
use Rattle.normal_form.specs.Paying.{choice_weight, IsGathered, IsGathering}
use Rattle.normal_form.proofs.Merging.{gather_step, there, choice_within}
use Rattle.normal_form.proofs.PayLemmas.{pay_on, pay_over}
use Rattle.normal_form.proofs.path_weight.weigh_choices.Goals as goal

pub weigh_choice-requires-clause-operand : goal.weigh_choice-requires-clause-operand
weigh_choice-requires-clause-operand c =
    choice_within c.args.path.now c.choice-item.result
    (subst (λ (l : List Alternative). IsIn c.choice-item.result l) c.requires.all
    (there c.args.alternatives.now c.loop-choice.choice-index c.choice-item.result (omega arith) c.choice-item.is))

pub returns-in-None : goal.returns-in-None
returns-in-None c =
    let graph = c.args.ground.now.graph.now in
    let path = c.args.path.now in
    let weight = choice_weight graph path in
    let made : Alternative → List Finding = λ choice. map (λ (shape : Shape). (shape, choice)) (shapes_of graph path choice) in
    let before = c.loop-choice.gathering in
    let over : before.left < weight c.choice-item.result = subst
    (λ (o : Option Gathering). IsGathered before.left (weight c.choice-item.result) (fold (with_finding c.args.place) before.merged.blocks.items (made c.choice-item.result)) o)
    c.in-None.is c.in_ok-weigh_choice.ensures in
    subst (λ (l : List Alternative). c.args.amount < sum_by weight l) c.requires.all
    (pay_over weight c.args.alternatives.now c.loop-choice.choice-index c.choice-item.result c.loop-choice.gathering.left c.args.amount (omega arith) c.choice-item.is over
    c.loop-choice.invariant.0)

pub loop-choice-preserved : goal.loop-choice-preserved
loop-choice-preserved c =
    let graph = c.args.ground.now.graph.now in
    let path = c.args.path.now in
    let weight = choice_weight graph path in
    let made : Alternative → List Finding = λ choice. map (λ (shape : Shape). (shape, choice)) (shapes_of graph path choice) in
    let before = c.loop-choice.gathering in
    let more : IsGathering before.left (weight c.choice-item.result) (fold (with_finding c.args.place) before.merged.blocks.items (made c.choice-item.result)) c.in-Some.more
    = subst
    (λ (o : Option Gathering). IsGathered before.left (weight c.choice-item.result) (fold (with_finding c.args.place) before.merged.blocks.items (made c.choice-item.result)) o)
    c.in-Some.is c.in_ok-weigh_choice.ensures in
    let within : c.loop-choice.gathering.left ≤ c.args.amount = c.loop-choice.invariant.1 in
    let paid = more.left in
    let less : c.in-Some.more.left ≤ c.args.amount = omega (arith, paid, within) in (
      pay_on weight c.args.alternatives.now c.loop-choice.choice-index c.choice-item.result before.left c.in-Some.more.left c.args.amount (omega arith) c.choice-item.is paid
          c.loop-choice.invariant.0,
      less,
      more.kept,
      gather_step (with_finding c.args.place) made c.args.alternatives.now c.loop-choice.choice-index c.choice-item.result before.merged.blocks.items
          c.in-Some.more.merged.blocks.items (gathered c.args.place (findings graph path)) (omega arith) c.choice-item.is more.blocks c.loop-choice.invariant.3,
    )
