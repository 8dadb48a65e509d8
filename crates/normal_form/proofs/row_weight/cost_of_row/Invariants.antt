use Rattle.std.proofs.Common.{◌≡◌, ◌+◌, take}
use Rattle.std.specs.List.{sum_by}
use Rattle.normal_form.specs.Spending.{counted}
use Rattle.normal_form.proofs.row_weight.cost_of_row.Given as goal

abbrev pub invariant-loop-part : goal.invariant-loop-part
invariant-loop-part l = l.cost ≡ counted (l.answer + sum_by (λ part. part.cost) (take l.part-index l.row))
