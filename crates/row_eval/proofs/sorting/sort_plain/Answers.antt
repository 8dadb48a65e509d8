use Rattle.std.proofs.Common.{◌<◌, take, length, sym, subst, arith}
use Rattle.std.specs.Prelude.{flat_map}
use Rattle.sql_algebra.specs.declared.tree.Conjunct.{Conjunct, out-Conjunct}
use Rattle.sql_algebra.specs.Soundness.{condition_is_sound}
use Rattle.row_eval.specs.Scopes.{placed}
use Rattle.row_eval.specs.Plans.{items_in, plain_at}
use Rattle.row_eval.specs.Sorted.{Adds}
use Rattle.row_eval.proofs.SortLemmas.{adds_more, flat_next, flat_at}
use Rattle.row_eval.proofs.sorting.sort_plain.Goals as goal

pub sort_conjunct-requires-clause-sound : goal.sort_conjunct-requires-clause-sound
sort_conjunct-requires-clause-sound c =
    let all = c.args.conjuncts.now in
    let i = c.loop-conjunct.conjunct-index in
    let within : i < length all = omega arith in
    flat_at (λ (x : Conjunct). plain_at (out-Conjunct x))
    (condition_is_sound c.args.catalog.now (items_in (placed c.args.reach.now))) all i c.conjunct-item.result within c.conjunct-item.is c.requires.sound

pub loop-conjunct-preserved : goal.loop-conjunct-preserved
loop-conjunct-preserved c =
    let reach = placed c.args.reach.now in
    let all = c.args.conjuncts.now in
    let i = c.loop-conjunct.conjunct-index in
    let x = c.conjunct-item.result in
    let within : i < length all = omega arith in
    subst (λ l. Adds c.args.catalog.now reach c.args.depth l c.args.sorted c.in_ok-sorted.sorted)
    (sym (flat_next (λ (x : Conjunct). plain_at (out-Conjunct x)) all i x within c.conjunct-item.is))
    (adds_more c.args.catalog.now reach c.args.depth (flat_map (λ (x : Conjunct). plain_at (out-Conjunct x)) (take i all))
    ((λ (x : Conjunct). plain_at (out-Conjunct x)) x) c.args.sorted c.loop-conjunct.sorted c.in_ok-sorted.sorted c.loop-conjunct.invariant c.in_ok-sorted.ensures)
