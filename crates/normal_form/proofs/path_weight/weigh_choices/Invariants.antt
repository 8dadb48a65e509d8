use Rattle.std.proofs.Common.{◌≡◌, ◌+◌, ◌≤◌, map, flat_map, drop}
use Rattle.std.specs.List.{fold, sum_by}
use Rattle.graph_meaning.specs.Blocks.{shapes_of}
use Rattle.normal_form.specs.Merged.{with_finding, findings, gathered}
use Rattle.normal_form.specs.Kept.{IsKept}
use Rattle.normal_form.specs.Paying.{choice_weight}
use Rattle.normal_form.proofs.path_weight.weigh_choices.Given as goal

abbrev pub invariant-loop-choice : goal.invariant-loop-choice
invariant-loop-choice l =
    (l.gathering.left + sum_by (choice_weight l.ground.graph.now l.path) l.alternatives
    ≡ l.amount + sum_by (choice_weight l.ground.graph.now l.path) (drop l.choice-index l.alternatives))
    × (l.gathering.left ≤ l.amount)
    × IsKept l.gathering.merged
    × (fold (with_finding l.place) l.gathering.merged.blocks.items
    (flat_map (λ choice. map (λ shape. (shape, choice)) (shapes_of l.ground.graph.now l.path choice)) (drop l.choice-index l.alternatives))
    ≡ gathered l.place (findings l.ground.graph.now l.path))
