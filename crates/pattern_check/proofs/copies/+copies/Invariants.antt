use Rattle.std.proofs.Common.{◌≡◌, ◌++◌, drop}
use Rattle.pattern_check.proofs.copies.+copies.Given as goal

abbrev pub invariant-copy_labels-loop-label : goal.invariant-copy_labels-loop-label
invariant-copy_labels-loop-label l = l.all ++ drop l.label-index l.list ≡ l.list
