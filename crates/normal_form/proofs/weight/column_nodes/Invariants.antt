use Rattle.std.proofs.Common.{◌≡◌, take}
use Rattle.std.specs.List.{sum_by}
use Rattle.expr_tree.specs.Nodes.{count_of_nodes}
use Rattle.normal_form.specs.Spending.{counted}
use Rattle.normal_form.proofs.weight.column_nodes.Given as goal

abbrev pub invariant-loop-output : goal.invariant-loop-output
invariant-loop-output l = l.count ≡ counted (sum_by (λ output. count_of_nodes output.value) (take l.output-index l.columns))
