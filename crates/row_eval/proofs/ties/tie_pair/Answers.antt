use Rattle.std.proofs.Common.{◌≡◌, ◌++◌, ◌∷◌, [], ◌∙◌, ap, sym}
use Rattle.row_eval.specs.declared.access.Tied.{Tied}
use Rattle.row_eval.specs.declared.access.Own.{Own}
use Rattle.row_eval.specs.declared.access.Pair.{Pair}
use Rattle.row_eval.specs.Ties.{own_of}
use Rattle.row_eval.proofs.TieLemmas.{with_tie, with_pair, with_turned_tie, on_ok}
use Rattle.row_eval.proofs.ties.tie_pair.Goals as goal

pub returns-in-Earlier-Own : goal.returns-in-Earlier-Own
returns-in-Earlier-Own c =
    on_ok c.push-in-Earlier-Own.result _ _
    (λ (is : c.push-in-Earlier-Own.new.self ≡ c.args.made.now.tied ++ record { own = c.own-in-Earlier-Own.result; other = c.args.a } ∷ []). λ s row long.
    with_turned_tie c.args.made.now s row c.args.a c.args.b c.args.place c.push-in-Earlier-Own.new.self long
    (sym c.side_at.ensures ∙ c.in-Earlier-Own.is-0) (sym c.side_at-2.ensures ∙ c.in-Earlier-Own.is-1)
    (is ∙ ap (λ (o : Own). let t : Tied = record { own = o; other = c.args.a } in c.args.made.now.tied ++ t ∷ []) c.own-in-Earlier-Own.ensures))
    c.push-in-Earlier-Own.ensures.ok

pub returns-in-Own-Earlier : goal.returns-in-Own-Earlier
returns-in-Own-Earlier c =
    on_ok c.push-in-Own-Earlier.result _ _
    (λ (is : c.push-in-Own-Earlier.new.self ≡ c.args.made.now.tied ++ record { own = c.own-in-Own-Earlier.result; other = c.args.b } ∷ []). λ s row long.
    with_tie c.args.made.now s row c.args.a c.args.b c.args.place c.push-in-Own-Earlier.new.self long
    (sym c.side_at.ensures ∙ c.in-Own-Earlier.is-0) (sym c.side_at-2.ensures ∙ c.in-Own-Earlier.is-1)
    (is ∙ ap (λ (o : Own). let t : Tied = record { own = o; other = c.args.b } in c.args.made.now.tied ++ t ∷ []) c.own-in-Own-Earlier.ensures))
    c.push-in-Own-Earlier.ensures.ok

pub returns-in-Own-Own : goal.returns-in-Own-Own
returns-in-Own-Own c =
    on_ok c.push.result _ _
    (λ (is : c.push.new.self ≡ c.args.made.now.pairs ++ record { left = c.own.result; right = c.own-in-Own-Own.result } ∷ []). λ s row long.
    with_pair c.args.made.now s row c.args.a c.args.b c.args.place c.push.new.self long
    (sym c.side_at.ensures ∙ c.in-Own-Own.is-0) (sym c.side_at-2.ensures ∙ c.in-Own-Own.is-1)
    (is ∙ ap (λ (o : Own). let p : Pair = record { left = o; right = c.own-in-Own-Own.result } in c.args.made.now.pairs ++ p ∷ []) c.own.ensures
    ∙ ap (λ (o : Own). let p : Pair = record { left = own_of c.args.a; right = o } in c.args.made.now.pairs ++ p ∷ []) c.own-in-Own-Own.ensures))
    c.push.ensures.ok
