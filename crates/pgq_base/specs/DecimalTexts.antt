-- The texts of whole numbers and of decimals: a minus where the number is below 0, and digits, those of a decimal with a point.
use Rattle.std.specs.Prelude.{◌≡◌, ℕ, zero, suc, ◌+◌, ◌/◌, ◌%◌, ◌^◌, ◌≤◌, Bool, true, false, List, [], ◌∷◌, ◌++◌, length, ℤ, pos, negsuc, unsigned_abs, codes, decimal, Some}
use Rattle.std.specs.Char.{is_ascii_digit}
use Rattle.std.specs.List.{list_all}
use Rattle.pgq_base.specs.declared.decimal.Decimal.{Decimal}
use Rattle.pgq_base.specs.Numerals.{size_of}

-- whether the number is below 0
abbrev pub is_below_zero : ℤ → Bool
is_below_zero (pos n) = false
is_below_zero (negsuc n) = true

-- the sign that is written of a number
abbrev pub sign_text : Bool → List ℕ
sign_text true = codes "-"
sign_text false = []

-- the text of a whole number
abbrev pub number_text : ℤ → List ℕ
number_text z = sign_text (is_below_zero z) ++ decimal (unsigned_abs z)

-- the last digits of a number, so many, with zeros at the front where it has fewer
abbrev pub last_digits : ℕ → ℕ → List ℕ
last_digits zero n = []
last_digits (suc count) n = (48 + n / 10 ^ count % 10) ∷ last_digits count n

-- the digits of n / 10^s before its point, without zeros at the front but for one that stands alone
abbrev pub whole_digits : ℕ → ℕ → List ℕ
whole_digits n s = decimal (n / 10 ^ s)

-- the digits of n / 10^s behind its point: as many as the scale says
abbrev pub fraction_digits : ℕ → ℕ → List ℕ
fraction_digits n s = last_digits s n

-- the text of n / 10^s, where the scale is above 0
abbrev pub size_text : ℕ → ℕ → List ℕ
size_text n s = whole_digits n s ++ codes "." ++ fraction_digits n s

-- the text of a decimal
abbrev pub decimal_text : Decimal → List ℕ
decimal_text d = sign_text (is_below_zero d.unscaled) ++ size_text (unsigned_abs d.unscaled) d.scale

-- The digits before and behind a point are digits, at least one before it and as many behind it as the scale says, and they are read
-- as the size.
pub record AreDigitsOf (size : ℕ × ℕ) (whole fraction : List ℕ) : Type 0 where
  pub before : list_all is_ascii_digit whole ≡ true
  pub some : 1 ≤ length whole
  pub behind : list_all is_ascii_digit fraction ≡ true
  pub scale : length fraction ≡ size.1
  pub read : size_of whole fraction ≡ Some size
