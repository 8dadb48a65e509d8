-- Steps that follow one another. What a step is due is a relation to an answer or an error: a text spells a tree, or has a first fault.
use Rattle.std.specs.Prelude.{◌≡◌, ◌⊎◌, Result, Ok, Err}

-- the next step, where there was no error
abbrev pub Then : {A B E : Type 0} → (Result A E → Type 0) → (A → Result B E → Type 0) → Result B E → Type 0
Then {A} first following (Ok y) = (x : A) × first (Ok x) × following x (Ok y)
Then {A} first following (Err e) = first (Err e) ⊎ ((x : A) × first (Ok x) × following x (Err e))

-- the step that is due this answer alone
abbrev pub Only : {A E : Type 0} → Result A E → Result A E → Type 0
Only due answer = due ≡ answer
