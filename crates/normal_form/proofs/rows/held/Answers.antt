use Rattle.std.proofs.Common.{◌≡◌, false, bytes_eq, sym, ap, ◌∙◌}
use Rattle.std.specs.List.{list_any}
use Rattle.graph_meaning.specs.Lists.{first_of}
use Rattle.normal_form.proofs.RowLemmas.{tagged_out, tagged_miss}
use Rattle.normal_form.proofs.rows.held.Goals as goal

pub returns-then-place-elements : goal.returns-then-place-elements
returns-then-place-elements c =
    let none = tagged_out c.args.name.now c.as_slice-tags.result.now c.as_slice-elements.result.now c.loop-place.place c.if-place-elements.true in
    sym (ap first_of none) ∙ c.loop-place.invariant ∙ cc

pub loop-place-preserved : goal.loop-place-preserved
loop-place-preserved c =
    let miss : list_any (bytes_eq c.args.name.now) c.index-tags-place.result.names ≡ false = cc in
    sym (ap first_of (tagged_miss c.args.name.now c.as_slice-tags.result.now c.as_slice-elements.result.now c.loop-place.place c.index-tags-place.result
    c.loop-place-test.true c.if-place-elements.false c.index-tags-place.is miss))
    ∙ c.loop-place.invariant
