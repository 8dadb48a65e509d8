use Rattle.std.proofs.Common.{◌≡◌, ℕ, take}
use Rattle.row_eval.specs.Slots.{lent_rows}
use Rattle.row_eval.specs.Served.{group_in, places_from, is_code, row_code}
use Rattle.row_eval.proofs.index.groups_of.Given as goal

abbrev pub invariant-loop-place : goal.invariant-loop-place
invariant-loop-place l = (q : ℕ) → group_in l.places q ≡ places_from (λ row. is_code q (row_code l.tied row)) 0 (take l.place (lent_rows l.lent))
