-- What joining the lists of path blocks gives.
use Rattle.std.specs.Prelude.{ℕ, ◌+◌, ◌<◌, ◌≤◌, ◌≡◌, List, length, map, Option, None, Some}
use Rattle.normal_form.specs.declared.joined.Joined.{Joined}
use Rattle.normal_form.specs.Rows.{BlockCost, seen, joined, payment}
use Rattle.normal_form.specs.Spending.{spent}

pub record AreAllJoined (names : List (List ℕ)) (lists : List (List BlockCost)) (limit : ℕ) (all : Joined) : Type 0 where
  pub rows : map (map seen) all.rows ≡ joined names lists
  pub left : spent limit (payment names lists) ≡ Some all.left
  pub few : payment names lists + length (joined names lists) ≤ limit

-- the rows of all lists and what is left after the payment, or nothing where the payment and the number of rows are together above the limit
abbrev pub AreJoined : List (List ℕ) → List (List BlockCost) → ℕ → Option Joined → Type 0
AreJoined names lists limit None = limit < payment names lists + length (joined names lists)
AreJoined names lists limit (Some all) = AreAllJoined names lists limit all
