-- What rows of path blocks cost.
use Rattle.std.specs.Prelude.{ℕ, ◌+◌, ◌*◌, ◌<◌, ◌≡◌, List, length, map, Option, None, Some}
use Rattle.std.specs.List.{sum_by}
use Rattle.normal_form.specs.declared.joined.Joined.{Joined}
use Rattle.normal_form.specs.Rows.{BlockCost, seen, joined, payment}

-- the costs of the path blocks of a row
abbrev pub costs_along : List BlockCost → ℕ
costs_along row = sum_by (λ part. part.1) row

pub record AreAllBought (names : List (List ℕ)) (lists : List (List BlockCost)) (amount : ℕ) (all : Joined) : Type 0 where
  pub rows : map (map seen) all.rows ≡ joined names lists
  pub left : all.left + payment names lists ≡ amount

-- the rows and what is left after the payment, or nothing where the payment and the answer's nodes in each row are together above the amount
abbrev pub AreBought : List (List ℕ) → List (List BlockCost) → ℕ → ℕ → Option Joined → Type 0
AreBought names lists answer amount None = amount < payment names lists + answer * length (joined names lists)
AreBought names lists answer amount (Some all) = AreAllBought names lists amount all
