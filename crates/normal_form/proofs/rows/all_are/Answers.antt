use Rattle.std.proofs.Common.{◌≡◌, get_or, true, false, nat_eq, bytes_eq, sym, ap, ◌∙◌}
use Rattle.std.specs.List.{list_any, list_all}
use Rattle.normal_form.proofs.RowLemmas.{tagged_out, tagged_miss, tagged_hit, as_before}
use Rattle.normal_form.proofs.rows.all_are.Goals.{else-is_one_of-via-then-is_one_of+else-elements-place, else-is_one_of-via-else-is_one_of}
use Rattle.normal_form.proofs.rows.all_are.Goals as goal

pub returns-then-place-elements : goal.returns-then-place-elements
returns-then-place-elements c =
    let none = tagged_out c.args.name.now c.as_slice-tags.result.now c.as_slice-elements.result.now c.loop-place.place c.if-place-elements.true in
    sym (ap (list_all (nat_eq c.args.element)) none) ∙ c.loop-place.invariant ∙ cc

pub loop-place-preserved : goal.loop-place-preserved
loop-place-preserved c =
    elim c.else-is_one_of.branch [
      | else-is_one_of-via-then-is_one_of+else-elements-place w ↦
          let hit : list_any (bytes_eq c.args.name.now) c.index-tags-place.result.names ≡ true = cc in
          let same : get_or c.as_slice-elements.result.now c.loop-place.place 0 ≡ c.args.element = cc in
          sym (ap (list_all (nat_eq c.args.element)) (tagged_hit c.args.name.now c.as_slice-tags.result.now c.as_slice-elements.result.now c.loop-place.place
          c.index-tags-place.result
          c.loop-place-test.true c.if-place-elements.false c.index-tags-place.is 0 hit)
          ∙ as_before c.args.element _ _ same)
          ∙ c.loop-place.invariant
      | else-is_one_of-via-else-is_one_of w ↦
          let miss : list_any (bytes_eq c.args.name.now) c.index-tags-place.result.names ≡ false = cc in
          sym (ap (list_all (nat_eq c.args.element)) (tagged_miss c.args.name.now c.as_slice-tags.result.now c.as_slice-elements.result.now c.loop-place.place
          c.index-tags-place.result
          c.loop-place-test.true c.if-place-elements.false c.index-tags-place.is miss))
          ∙ c.loop-place.invariant
    ]
