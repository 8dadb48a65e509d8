use Rattle.std.proofs.Common.{◌<◌, length, arith, sym, subst}
use Rattle.row_eval.specs.Slots.{lent_rows}
use Rattle.row_eval.specs.Served.{AreGroupsOf, IsGroupsOf}
use Rattle.row_eval.proofs.KeyLemmas.{groups_more}
use Rattle.row_eval.proofs.index.all_groups.Goals as goal

pub loop-key-preserved : goal.loop-key-preserved
loop-key-preserved c =
    let rows = lent_rows c.args.lent.now in
    let within : c.loop-key.key-index < length c.args.keys.now = omega arith in
    subst (AreGroupsOf _ rows) (sym c.in_ok-push.ensures.items)
    (groups_more rows c.args.keys.now c.loop-key.key-index c.key-item.result within c.key-item.is c.loop-key.all.items c.in_ok-groups_of.field-0 c.loop-key.invariant
    (subst (λ tied. IsGroupsOf tied rows c.in_ok-groups_of.field-0) c.as_slice.ensures c.in_ok-groups_of.ensures))
