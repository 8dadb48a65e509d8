use Rattle.std.proofs.Common.{◌≡◌, ℕ, ◌+◌, ◌<◌, ◌≤◌, List, length, ap, sym, ◌∙◌, arith}
use Rattle.std.specs.List.{sum_by}
use Rattle.normal_form.specs.declared.rows.Costed.{Costed}
use Rattle.normal_form.specs.Spending.{spent, counted}
use Rattle.normal_form.proofs.PayLemmas.{paid, unpaid, payable, not_payable, spent_counted, pay_on, pay_over, pay_end}
use Rattle.normal_form.proofs.row_weight.spend_rows.Goals as goal

abbrev weight : ℕ → List Costed → ℕ
weight answer row = answer + sum_by (λ part. part.cost) row

pub returns-in-None : goal.returns-in-None
returns-in-None c =
    let own = weight c.args.answer in
    let row = c.row-item.result in
    let left = c.loop-row.left in
    let cost : c.cost_of_row.result ≡ counted (own row) = c.cost_of_row.ensures ∙ ap (λ r. counted (own r)) c.as_slice.ensures in
    let within : left ≤ c.args.amount = c.loop-row.invariant.1 in
    let limit = c.requires in
    let few : left ≤ 1000000 = omega (arith, within, limit) in
    let over : left < own row = unpaid left (own row) (sym (spent_counted left (own row) few) ∙ ap (spent left) (sym cost) ∙ sym c.spend.ensures ∙ c.in-None.is) in
    sym (not_payable c.args.amount (sum_by own c.args.rows.now)
    (pay_over own c.args.rows.now c.loop-row.row-index row left c.args.amount (omega arith) c.row-item.is over c.loop-row.invariant.0))

pub loop-row-preserved : goal.loop-row-preserved
loop-row-preserved c =
    let own = weight c.args.answer in
    let row = c.row-item.result in
    let left = c.loop-row.left in
    let cost : c.cost_of_row.result ≡ counted (own row) = c.cost_of_row.ensures ∙ ap (λ r. counted (own r)) c.as_slice.ensures in
    let within : left ≤ c.args.amount = c.loop-row.invariant.1 in
    let limit = c.requires in
    let few : left ≤ 1000000 = omega (arith, within, limit) in
    let one = paid left (own row) c.in-Some.less (sym (spent_counted left (own row) few) ∙ ap (spent left) (sym cost) ∙ sym c.spend.ensures ∙ c.in-Some.is) in
    let less : c.in-Some.less ≤ c.args.amount = omega (arith, one, within) in
    (pay_on own c.args.rows.now c.loop-row.row-index row left c.in-Some.less c.args.amount (omega arith) c.row-item.is one c.loop-row.invariant.0, less)

pub returns : goal.returns
returns c =
    let own = weight c.args.answer in
    let end : c.loop-row.row-index ≡ length c.args.rows.now = omega arith in
    sym (payable c.args.amount (sum_by own c.args.rows.now) c.loop-row.left
    (pay_end own c.args.rows.now c.loop-row.row-index c.loop-row.left c.args.amount end c.loop-row.invariant.0))
