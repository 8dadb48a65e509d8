use Rattle.std.proofs.Common.{◌≡◌, take}
use Rattle.std.specs.List.{sum_by}
use Rattle.expr_tree.specs.Nodes.{count_of_nodes}
use Rattle.normal_form.specs.Spending.{counted}
use Rattle.normal_form.proofs.sizes.+nodes.Given as goal

abbrev pub invariant-nodes_of_all-loop-expr : goal.invariant-nodes_of_all-loop-expr
invariant-nodes_of_all-loop-expr l = l.count ≡ counted (sum_by count_of_nodes (take l.expr-index l.list))
