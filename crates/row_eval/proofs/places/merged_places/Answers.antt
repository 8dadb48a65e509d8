use Rattle.std.proofs.Common.{◌<◌, length, arith, sym, ap, subst, ◌∙◌}
use Rattle.row_eval.specs.declared.access.Key.{Key}
use Rattle.row_eval.specs.Slots.{lent_rows}
use Rattle.row_eval.specs.Served.{IsGroupsOf, stack_code, row_code, shares_code, places_from, merge}
use Rattle.row_eval.proofs.KeyLemmas.{groups_long, groups_at, no_candidates, more_candidates}
use Rattle.row_eval.proofs.places.merged_places.Goals as goal

pub loop-number-init : goal.loop-number-init
loop-number-init c = c.new-all.ensures.items ∙ sym (no_candidates (lent_rows c.args.stack.now) (lent_rows c.args.lent.now))

pub groups_at-requires : goal.groups_at-requires
groups_at-requires c = (let long = groups_long (lent_rows c.args.lent.now) c.args.keys.now c.args.groups.now c.requires in omega (arith, long))

pub places_of-places-requires : goal.places_of-places-requires
places_of-places-requires c =
    let key = c.index-keys-number.result in
    let rows = lent_rows c.args.lent.now in
    let within : c.loop-number.number < length c.args.keys.now = omega arith in
    let same = c.as_slice-tied.ensures ∙ ap (λ (k : Key). k.tied) (sym c.index-keys-number.is) in
    subst (λ tied. IsGroupsOf tied rows c.groups_at.result.now) (sym same)
    (groups_at rows c.args.keys.now c.args.groups.now c.requires c.loop-number.number key c.groups_at.result.now within c.index-keys-number.is c.groups_at.ensures)

pub loop-number-preserved : goal.loop-number-preserved
loop-number-preserved c =
    let key = c.index-keys-number.result in
    let rows = lent_rows c.args.lent.now in
    let s = lent_rows c.args.stack.now in
    let within : c.loop-number.number < length c.args.keys.now = omega arith in
    let same = c.as_slice-tied.ensures ∙ ap (λ (k : Key). k.tied) (sym c.index-keys-number.is) in
    c.in_ok-all.ensures ∙ ap (merge c.as_slice.result.now)
    (c.places_of-places.ensures ∙ ap (λ tied. places_from (λ row. shares_code (stack_code tied s) (row_code tied row)) 0 rows) same)
    ∙ more_candidates s rows c.args.keys.now c.loop-number.number key within c.index-keys-number.is c.as_slice.result.now (c.as_slice.ensures.value ∙ c.loop-number.invariant)
