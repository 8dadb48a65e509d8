use Rattle.std.proofs.Common.{◌++◌, ◌∷◌, [], ◌∙◌, ap, sym}
use Rattle.row_eval.specs.declared.access.Own.{Own}
use Rattle.row_eval.specs.declared.access.Tied.{Tied}
use Rattle.row_eval.proofs.SortLemmas.{if_ok}
use Rattle.row_eval.proofs.WayLemmas.{tied_own, tied_turned}
use Rattle.row_eval.proofs.ways.tied_by.Goals as goal

pub returns-in-Own-Earlier : goal.returns-in-Own-Earlier
returns-in-Own-Earlier c =
    if_ok c.pushed.result _ _
    (λ all is. tied_own c.args.place c.args.a c.args.b c.args.tied all (sym c.side_at.ensures ∙ c.in-Own-Earlier.is-0) (sym c.side_at-2.ensures ∙ c.in-Own-Earlier.is-1)
    (is ∙ ap (λ (o : Own). let new : Tied = record { own = o; other = c.args.b } in c.args.tied ++ new ∷ []) c.own.ensures))
    c.pushed.ensures

pub returns-in-Earlier-Own : goal.returns-in-Earlier-Own
returns-in-Earlier-Own c =
    if_ok c.pushed-in-Earlier-Own.result _ _
    (λ all is. tied_turned c.args.place c.args.a c.args.b c.args.tied all
    (sym c.side_at.ensures ∙ c.in-Earlier-Own.is-0) (sym c.side_at-2.ensures ∙ c.in-Earlier-Own.is-1)
    (is ∙ ap (λ (o : Own). let new : Tied = record { own = o; other = c.args.a } in c.args.tied ++ new ∷ []) c.own-in-Earlier-Own.ensures))
    c.pushed-in-Earlier-Own.ensures
