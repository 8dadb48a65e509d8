use Rattle.std.proofs.Common.{◌<◌, take, length, sym, subst, arith}
use Rattle.std.specs.Prelude.{flat_map}
use Rattle.sql_algebra.specs.declared.tree.FromItem.{FromItem}
use Rattle.sql_algebra.specs.Soundness.{condition_is_sound}
use Rattle.sql_algebra.specs.Tuples.{members_of}
use Rattle.row_eval.specs.Scopes.{placed}
use Rattle.row_eval.specs.Plans.{items_in}
use Rattle.row_eval.specs.Sorted.{Adds}
use Rattle.row_eval.proofs.SortLemmas.{adds_more, flat_next, flat_at}
use Rattle.row_eval.proofs.sorting.sort_ons.Goals as goal

pub sort_on-requires-clause-sound : goal.sort_on-requires-clause-sound
sort_on-requires-clause-sound c =
    let all = c.args.items.now in
    let i = c.loop-item.item-index in
    let within : i < length all = omega arith in
    flat_at (λ (x : FromItem). members_of x.on)
    (condition_is_sound c.args.catalog.now (items_in (placed c.args.reach.now))) all i c.item-item.result within c.item-item.is c.requires.sound

pub loop-item-preserved : goal.loop-item-preserved
loop-item-preserved c =
    let reach = placed c.args.reach.now in
    let all = c.args.items.now in
    let i = c.loop-item.item-index in
    let x = c.item-item.result in
    let within : i < length all = omega arith in
    subst (λ l. Adds c.args.catalog.now reach c.args.depth l c.args.sorted c.in_ok-sorted.sorted)
    (sym (flat_next (λ (x : FromItem). members_of x.on) all i x within c.item-item.is))
    (adds_more c.args.catalog.now reach c.args.depth (flat_map (λ (x : FromItem). members_of x.on) (take i all))
    ((λ (x : FromItem). members_of x.on) x) c.args.sorted c.loop-item.sorted c.in_ok-sorted.sorted c.loop-item.invariant c.in_ok-sorted.ensures)
