use Rattle.row_eval.proofs.SortLemmas.{narrows_none, narrows_more}
use Rattle.row_eval.proofs.narrowing.narrow.Goals as goal

pub loop-place-init : goal.loop-place-init
loop-place-init c = narrows_none c.args.depth c.args.condition.now c.args.sorted

pub loop-place-preserved : goal.loop-place-preserved
loop-place-preserved c =
    narrows_more c.args.depth c.args.condition.now c.args.sorted c.loop-place.sorted c.in_ok-sorted.sorted c.loop-place.invariant c.in_ok-sorted.ensures
