use Rattle.std.proofs.Common.{◌≡◌, take}
use Rattle.std.specs.List.{sum_by}
use Rattle.graph_meaning.specs.Weights.{choice_size}
use Rattle.normal_form.specs.Spending.{counted}
use Rattle.normal_form.proofs.sizes.sizes_of.Given as goal

abbrev pub invariant-loop-choice : goal.invariant-loop-choice
invariant-loop-choice l = l.size ≡ counted (sum_by (choice_size l.path) (take l.choice-index l.choices))
