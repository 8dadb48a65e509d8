-- When a look-up by name answers the place of a name.
use Rattle.std.specs.Prelude.{◌≡◌, ℕ, ◌<◌, List, Option, None, Some, length, slice_get}
use Rattle.multisets.specs.Bags.{IsIn}

-- among these names: a place that is answered has the name and no earlier one has, and none is answered exactly where the name is not there
pub record FindsPlaces (names : List (List ℕ)) (find : List ℕ → Option ℕ) : Type 0 where
  pub found : (name : List ℕ) (place : ℕ) → find name ≡ Some place → slice_get names place ≡ Some name
  pub first : (name : List ℕ) (place earlier : ℕ) → find name ≡ Some place → earlier < place → slice_get names earlier ≡ Some name → ⊥
  pub missing : (name : List ℕ) → find name ≡ None → IsIn name names → ⊥
