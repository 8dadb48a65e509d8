use Rattle.std.proofs.Common.{◌≡◌, ◌+◌, ◌≤◌, drop}
use Rattle.std.specs.List.{sum_by}
use Rattle.normal_form.proofs.row_weight.spend_rows.Given as goal

abbrev pub invariant-loop-row : goal.invariant-loop-row
invariant-loop-row l =
    (l.left + sum_by (λ row. l.answer + sum_by (λ part. part.cost) row) l.rows
    ≡ l.amount + sum_by (λ row. l.answer + sum_by (λ part. part.cost) row) (drop l.row-index l.rows))
    × (l.left ≤ l.amount)
