use Rattle.std.proofs.Common.{◌<◌, ◌∷◌, [], take, length, subst, arith}
use Rattle.row_eval.specs.Scopes.{placed}
use Rattle.row_eval.specs.Sorted.{Adds}
use Rattle.row_eval.proofs.SortLemmas.{adds_more, take_next}
use Rattle.row_eval.proofs.sorting.sort_list.Goals as goal

pub loop-condition-preserved : goal.loop-condition-preserved
loop-condition-preserved c =
    let reach = placed c.args.reach.now in
    let all = c.args.conditions.now in
    let i = c.loop-condition.condition-index in
    let x = c.condition-item.result in
    let within : i < length all = omega arith in
    subst (λ l. Adds c.args.catalog.now reach c.args.depth l c.args.sorted c.in_ok-sorted.sorted) (take_next all i x within c.condition-item.is)
    (adds_more c.args.catalog.now reach c.args.depth (take i all)
    (x ∷ []) c.args.sorted c.loop-condition.sorted c.in_ok-sorted.sorted c.loop-condition.invariant c.in_ok-sorted.ensures)
