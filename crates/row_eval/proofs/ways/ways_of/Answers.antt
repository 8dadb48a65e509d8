use Rattle.std.proofs.Common.{◌∙◌, ap}
use Rattle.std.specs.List.{list_any}
use Rattle.row_eval.specs.Slots.{is_kept}
use Rattle.row_eval.proofs.SortLemmas.{if_ok}
use Rattle.row_eval.proofs.WayLemmas.{kept_any}
use Rattle.row_eval.proofs.ways.ways_of.Goals as goal

pub returns-in-Any : goal.returns-in-Any
returns-in-Any c =
    if_ok c.ways_among.result _ _
    (λ ways h t within test. h t within (ap (list_any (is_kept t)) c.as_slice.ensures ∙ kept_any t c.args.condition.now c.in-Any.alternatives c.in-Any.is test))
    c.ways_among.ensures
