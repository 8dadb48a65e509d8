-- Ways by which rows may be looked up: in each stack of which a condition is True, the row at a place has the ties of one of them.
use Rattle.std.specs.Prelude.{◌≡◌, ℕ, ◌<◌, Bool, true, List, [], take, length, slice_index_or}
use Rattle.row_eval.specs.declared.access.Key.{Key}
use Rattle.row_eval.specs.declared.access.Tied.{Tied}
use Rattle.row_eval.specs.Access.{ties_agree, some_agree, ways_agree}
use Rattle.row_eval.specs.Slots.{Stack}

-- the ties hold of the row at a place of a stack and the rows before it
abbrev pub tied_at : ℕ → Stack → List Tied → Bool
tied_at place stack tied = ties_agree (take place stack) (slice_index_or stack place []) tied

-- so do those of one of the keys
abbrev pub some_at : ℕ → Stack → List Key → Bool
some_at place stack keys = some_agree (take place stack) (slice_index_or stack place []) keys

-- so do those of one of the ways, where there is a way
abbrev pub ways_at : ℕ → Stack → List Key → Bool
ways_at place stack ways = ways_agree (take place stack) (slice_index_or stack place []) ways

-- where a test passes, ties that hold stay ties that hold
abbrev pub StayTied : ℕ → (Stack → Bool) → List Tied → List Tied → Type 0
StayTied place test old new = (t : Stack) → place < length t → test t ≡ true → tied_at place t old ≡ true → tied_at place t new ≡ true

-- where a test passes, one of the ways gives the row
abbrev pub AreWays : ℕ → (Stack → Bool) → List Key → Type 0
AreWays place test ways = (t : Stack) → place < length t → test t ≡ true → ways_at place t ways ≡ true
