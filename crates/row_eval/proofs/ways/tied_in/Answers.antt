use Rattle.std.proofs.Common.{◌∙◌, ap}
use Rattle.std.specs.List.{list_all}
use Rattle.row_eval.specs.Slots.{is_kept}
use Rattle.row_eval.proofs.SortLemmas.{if_ok}
use Rattle.row_eval.proofs.WayLemmas.{kept_all}
use Rattle.row_eval.proofs.ways.tied_in.Goals as goal

pub returns-in-All : goal.returns-in-All
returns-in-All c =
    if_ok c.tied_by_all.result _ _
    (λ all h t within test old. h t within (ap (list_all (is_kept t)) c.as_slice.ensures ∙ kept_all t c.args.alternative.now c.in-All.members c.in-All.is test) old)
    c.tied_by_all.ensures
