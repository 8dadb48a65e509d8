use Rattle.path_lowering.proofs.PlacingSteps.{some_there, chain_more, where_stays}
use Rattle.std.proofs.Common.{◌≤◌, length, subst}
use Rattle.path_lowering.proofs.placing.chained.Goals as goal

pub loop-slot-preserved : goal.loop-slot-preserved
loop-slot-preserved c =
    let some : 1 ≤ length c.loop-slot.from = subst (λ l. 1 ≤ length l) c.as_slice.ensures
    (some_there c.as_slice.result.now c.is_empty.result c.is_empty.ensures c.if-is_empty.false) in
    record {
      from = chain_more c.loop-slot.yielded c.in-Some.slot c.loop-slot.from c.push-else-is_empty.new.self c.in_ok-or_true.field-0 c.loop-slot.invariant.from some
          c.in_ok-or_true.ensures c.in_ok-push-2.ensures.ok;
      conjuncts = where_stays c.loop-slot.yielded c.in-Some.slot c.loop-slot.from c.loop-slot.conjuncts c.loop-slot.invariant.from some c.loop-slot.invariant.conjuncts;
    }
