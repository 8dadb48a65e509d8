use Rattle.std.proofs.Common.{◌∙◌, sym}
use Rattle.row_eval.proofs.SortLemmas.{if_ok}
use Rattle.row_eval.proofs.WayLemmas.{kept_pair}
use Rattle.row_eval.proofs.ways.tied_more.Goals as goal

pub returns-in-Some : goal.returns-in-Some
returns-in-Some c =
    if_ok c.tied_by.result _ _
    (λ all h t within test old. h t within (sym (kept_pair t c.args.condition.now (c.in-Some.a, c.in-Some.b) (sym c.equal_slots.ensures ∙ c.in-Some.is)) ∙ test) old)
    c.tied_by.ensures
