use Rattle.std.proofs.Common.{ℕ, ◌+◌, ◌*◌, ◌<◌, List, Option, map, length, ap, sym, subst, ◌∙◌, Bor, arith}
use Rattle.std.specs.List.{sum_by}
use Rattle.pgq_base.specs.declared.name.Name.{Name}
use Rattle.normal_form.specs.declared.joined.Joined.{Joined}
use Rattle.normal_form.specs.Rows.{BlockCost, seen, joined, payment}
use Rattle.normal_form.specs.Spending.{spent}
use Rattle.normal_form.specs.RowWeights.{costs_along, AreBought, AreAllBought}
use Rattle.normal_form.proofs.PayLemmas.{payable, not_payable, spent_again}
use Rattle.normal_form.proofs.WeightLemmas.{in_each, seen_rows}
use Rattle.normal_form.proofs.row_weight.weigh_rows.Goals as goal

abbrev named : Bor Name → List ℕ
named n = n.now

abbrev weight : ℕ → List BlockCost → ℕ
weight answer row = answer + costs_along row

pub returns-in-None : goal.returns-in-None
returns-in-None c =
    let names = map named c.args.names.now in
    let lists : List (List BlockCost) = map (map seen) c.args.lists.now in
    let over : c.args.amount < payment names lists + c.args.answer * length (joined names lists) = subst
    (λ (o : Option Joined). AreBought names lists c.args.answer c.args.amount o) c.in-None.is c.in_ok-buy_rows.ensures in
    let each = in_each c.args.answer costs_along (joined names lists) in
    let whole : c.args.amount < payment names lists + sum_by (weight c.args.answer) (joined names lists) = omega (arith, over, each) in
    sym (not_payable c.args.amount (payment names lists + sum_by (weight c.args.answer) (joined names lists)) whole)

pub returns-in-Some : goal.returns-in-Some
returns-in-Some c =
    let names = map named c.args.names.now in
    let lists : List (List BlockCost) = map (map seen) c.args.lists.now in
    let all : AreAllBought names lists c.args.amount c.in-Some.all = subst
    (λ (o : Option Joined). AreBought names lists c.args.answer c.args.amount o) c.in-Some.is c.in_ok-buy_rows.ensures in
    c.spend_rows.ensures
    ∙ ap (spent c.in-Some.all.left)
    (seen_rows c.args.answer c.as_slice.result.now
    ∙ ap (λ (rows : List (List BlockCost)). sum_by (weight c.args.answer) rows) (ap (map (map seen)) c.as_slice.ensures ∙ all.rows))
    ∙ spent_again c.args.amount (payment names lists) (sum_by (weight c.args.answer) (joined names lists)) c.in-Some.all.left
    (payable c.args.amount (payment names lists) c.in-Some.all.left all.left)
