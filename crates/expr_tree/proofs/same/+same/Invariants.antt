use Rattle.std.proofs.Common.{◌≡◌, take}
use Rattle.expr_tree.proofs.same.+same.Given as goal

abbrev pub invariant-same_list-loop-i : goal.invariant-same_list-loop-i
invariant-same_list-loop-i g l = take l.i l.list ≡ take l.i l.other
