use Rattle.std.proofs.Common.{◌≡◌, length, take}
use Rattle.graph_ast.proofs.leaves.same_list.Given as goal

abbrev pub invariant-loop-i : goal.invariant-loop-i
invariant-loop-i l = (length l.list ≡ length l.others) × (take l.i l.list ≡ take l.i l.others)
