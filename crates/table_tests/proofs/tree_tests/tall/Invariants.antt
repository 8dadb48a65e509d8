use Rattle.std.proofs.Common.{◌≡◌, ◌+◌, ◌-◌, ◌*◌, ◌≤◌}
use Rattle.expr_tree.specs.Nodes.{count_of_nodes}
use Rattle.table_tests.proofs.tree_tests.tall.Given as goal

abbrev pub invariant-loop-round : goal.invariant-loop-round
invariant-loop-round l = (count_of_nodes l.expr ≡ 3 * l.round + 1) × (l.round ≤ 100)

abbrev pub decreases-loop-round : goal.decreases-loop-round
decreases-loop-round l = 100 - l.round
