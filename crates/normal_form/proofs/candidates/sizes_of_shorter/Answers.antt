use Rattle.std.proofs.Common.{ap, sym, ◌∙◌}
use Rattle.normal_form.specs.Spending.{counted}
use Rattle.normal_form.proofs.SizeLemmas.{none_counted}
use Rattle.normal_form.proofs.EndSteps.{none_shorter, shorter_on}
use Rattle.normal_form.proofs.candidates.sizes_of_shorter.Goals as goal

pub loop-places-init : goal.loop-places-init
loop-places-init c = sym (ap counted (none_shorter c.args.path.now c.args.blocks.now c.ends_of-first.result.0 c.ends_of-first.result.1) ∙ none_counted)

pub loop-places-preserved : goal.loop-places-preserved
loop-places-preserved c =
    let first = c.ends_of-first.result.0 in
    let last = c.ends_of-first.result.1 in
    c.sum-total.ensures
    ∙ shorter_on c.args.path.now c.args.blocks.now first last c.loop-places.places c.loop-places.total c.size_at.result c.loop-places.invariant
    (c.size_at.ensures ∙ c.requires (first, last, c.loop-places.places))
