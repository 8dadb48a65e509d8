-- Digits, and values within types.
use Rattle.std.proofs.Common.{◌≡◌, ℕ, zero, suc, true, List, [], ◌∷◌, take, refl}
use Rattle.std.specs.Char.{is_ascii_digit}
use Rattle.std.specs.List.{list_all}
use Rattle.pgq_base.proofs.DigitLemmas.{both}

-- digits up to a place are digits
pub digits_before : (n : ℕ) (digits : List ℕ) → list_all is_ascii_digit digits ≡ true → list_all is_ascii_digit (take n digits) ≡ true
digits_before zero digits h = refl
digits_before (suc n) [] h = refl
digits_before (suc n) (d ∷ ds) h =
    let two = both (is_ascii_digit d) (list_all is_ascii_digit ds) h in
    rw two.0 (digits_before n ds two.1)
