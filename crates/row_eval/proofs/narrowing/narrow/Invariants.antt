use Rattle.row_eval.specs.Sorted.{Narrows}
use Rattle.row_eval.proofs.narrowing.narrow.Given as goal

abbrev pub invariant-loop-place : goal.invariant-loop-place
invariant-loop-place l = Narrows l.depth l.condition l.fn.sorted l.sorted
