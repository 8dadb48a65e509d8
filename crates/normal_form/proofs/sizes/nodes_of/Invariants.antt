use Rattle.std.proofs.Common.{◌≡◌, take}
use Rattle.std.specs.List.{sum_by}
use Rattle.expr_tree.specs.Nodes.{count_of_nodes}
use Rattle.normal_form.specs.Spending.{counted}
use Rattle.normal_form.proofs.sizes.nodes_of.Given as goal

abbrev pub invariant-loop-condition : goal.invariant-loop-condition
invariant-loop-condition l = l.count ≡ counted (sum_by count_of_nodes (take l.condition-index l.conditions))
