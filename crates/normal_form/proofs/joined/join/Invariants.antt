use Rattle.std.proofs.Common.{map}
use Rattle.normal_form.specs.Rows.{seen}
use Rattle.normal_form.proofs.RowsPaid.{IsPaid}
use Rattle.normal_form.proofs.joined.join.Given as goal

abbrev pub invariant-loop-place : goal.invariant-loop-place
invariant-loop-place l = IsPaid (map (λ n. n.now) l.names) (map (map seen) l.lists) l.limit l.place (map (map seen) l.rows) l.left
