-- The text of a decimal is read as the decimal.
use Rattle.std.proofs.Common.{◌≡◌, ℕ, zero, suc, ◌+◌, ◌-◌, ◌*◌, ◌/◌, ◌%◌, ◌^◌, ◌<◌, ◌≤◌, Bool, true, false, not, ◌&&◌, ◌||◌, ◌==◌, nat_le, nat_lt, if◌then◌else◌, Some, None}
use Rattle.std.proofs.Common.{List, [], ◌∷◌, ◌++◌, length, refl, sym, ap, ap₂, ◌∙◌, arith, rules, subst, decimal, ℤ, pos, negsuc, unsigned_abs}
use Rattle.std.proofs.lemmas.Bool.Decides.{nat_tests}
use Rattle.std.proofs.lemmas.Str.Parse.{IsNumeralModel, numerals_by_fold}
use Rattle.std.proofs.lemmas.Fmt.{digits_decimal, digits_value-decimal, decimal_nonempty, decimal_digit, length-decimal-le}
use Rattle.std.proofs.lemmas.List.Sums.{fold-append}
use Rattle.std.proofs.Math.Arith.{mod-mul}
use Rattle.std.proofs.Math.Nat.{mul_assoc, mul_comm, div-add-mod, div-lt_iff_lt-mul, one-le-pow}
use Rattle.std.proofs.lemmas.Nat.{pow-add}
use native.Mathlib.Numerals.{unary_clauses}
use Rattle.std.specs.Char.{is_ascii_digit}
use Rattle.std.specs.List.{list_all, prefix_len}
use Rattle.pgq_base.specs.Numerals.{number_from, number_value, is_zero, digit_count, lowest, is_size, size_of}
use Rattle.pgq_base.specs.DecimalTexts.{last_digits, whole_digits, fraction_digits, is_below_zero, AreDigitsOf}
use Rattle.pgq_base.specs.Signs.{signed}
use Rattle.pgq_base.specs.Sizes.{size_value}
use Rattle.pgq_base.specs.declared.decimal.Decimal.{Decimal}
use Rattle.pgq_base.specs.declared.value.Value.TheVariants as Value
use Rattle.pgq_base.proofs.DigitLemmas.{both, power_step}
use Rattle.pgq_base.proofs.SizeLemmas.{as_size}

-- ---- runs of digits

is_digit : (n : ℕ) → n < 10 → is_ascii_digit (48 + n) ≡ true
is_digit n h = grind (arith, nat_tests)

pub last_digits_are : (count n : ℕ) → list_all is_ascii_digit (last_digits count n) ≡ true
last_digits_are zero n = refl
last_digits_are (suc count) n = rw (is_digit (n / 10 ^ count % 10) (omega arith)) (last_digits_are count n)

pub length-last_digits : (count n : ℕ) → length (last_digits count n) ≡ count
length-last_digits zero n = refl
length-last_digits (suc count) n = ap suc (length-last_digits count n)

positive : (count : ℕ) → zero < 10 ^ count
positive count = one-le-pow count 10 (omega arith)

-- before * 10 + digit, at the place of a power of ten
place_value : (before digit power rest : ℕ) → (before * 10 + digit) * power + rest ≡ before * (10 * power) + (digit * power + rest)
place_value before digit power rest = omega (arith, mul_assoc before 10 power)

pub last_digits_value : (count n before : ℕ) → number_from before (last_digits count n) ≡ before * 10 ^ count + n % 10 ^ count
last_digits_value zero n before = omega arith
last_digits_value (suc count) n before =
    let digit : ℕ = n / 10 ^ count % 10 in
    let plain : 48 + digit - 48 ≡ digit = omega arith in
    let rest : number_from (before * 10 + digit) (last_digits count n) ≡ (before * 10 + digit) * 10 ^ count + n % 10 ^ count = last_digits_value count n (before * 10 + digit) in
    let low : n % (10 * 10 ^ count) ≡ digit * 10 ^ count + n % 10 ^ count = mod-mul n (omega arith) (positive count) in
    ap (λ d. number_from (before * 10 + d) (last_digits count n)) plain ∙ rest ∙ place_value before digit (10 ^ count) (n % 10 ^ count)
    ∙ ap (λ k. before * (10 * 10 ^ count) + k) (sym low) ∙ ap (λ power. before * power + n % power) (sym (power_step count))

-- what std writes of a number is read by the words of this crate
own : IsNumeralModel (λ ds. list_all is_ascii_digit ds ≡ true) number_value
own = numerals_by_fold _ (search rules) number_from (search rules)

pub digits-decimal : (n : ℕ) → n < 2 ^ 64 → list_all is_ascii_digit (decimal n) ≡ true
digits-decimal n h = digits_decimal own n h

pub number_value-decimal : (n : ℕ) → n < 2 ^ 64 → number_value (decimal n) ≡ n
number_value-decimal n h = digits_value-decimal own n h

-- ---- the digits of a size

pub size_digits_value : (n s : ℕ) → n / 10 ^ s < 2 ^ 64 → number_value (whole_digits n s ++ fraction_digits n s) ≡ n
size_digits_value n s h =
    fold-append _ 0 (whole_digits n s) (fraction_digits n s) ∙ ap (λ w. number_from w (fraction_digits n s)) (number_value-decimal (n / 10 ^ s) h)
    ∙ last_digits_value s n (n / 10 ^ s) ∙ omega (arith, div-add-mod n (10 ^ s), mul_comm (n / 10 ^ s) (10 ^ s))

pub lowest_itself : (n s : ℕ) → (s == 0 || not (n % 10 == 0)) ≡ true → lowest n s ≡ (n, s)
lowest_itself n zero h = refl
lowest_itself n (suc s) h = by_end (n % 10 == 0) refl (let some : (suc s == 0) ≡ false = grind (arith, nat_tests) in rw some at h)
  where
    by_end : (b : Bool) → (n % 10 == 0) ≡ b → not b ≡ true → lowest n (suc s) ≡ (n, suc s)
    by_end true e h = cc
    by_end false e h = rw e refl

-- no zero at the front is counted, and of 18 digits those behind the point leave the rest before it
whole_count : (m s : ℕ) → s ≤ 18 → m < 10 ^ (18 - s) → m < 2 ^ 64 → length (decimal m) - prefix_len is_zero (decimal m) + s ≤ 18
whole_count zero s few small fits = let one : decimal 0 ≡ 48 ∷ [] = decimal_digit 0 (omega arith) in rw one (omega arith)
whole_count (suc m) s few small fits = by_room (18 - s) refl
  where
    by_room : (room : ℕ) → 18 - s ≡ room → length (decimal (suc m)) - prefix_len is_zero (decimal (suc m)) + s ≤ 18
    by_room zero e = absurd (let none : suc m < 10 ^ zero = subst (λ k. suc m < 10 ^ k) e small in omega arith)
    by_room (suc room) e =
        let short : length (decimal (suc m)) ≤ suc room = length-decimal-le (suc room) (suc m) (omega arith) (subst (λ k. suc m < 10 ^ k) e small) fits in
        omega (arith, short, e)

whole_below : (n s : ℕ) → s ≤ 18 → n < 10 ^ 18 → n / 10 ^ s < 10 ^ (18 - s)
whole_below n s few small =
    let all : 18 - s + s ≡ 18 = omega arith in
    let split : 10 ^ 18 ≡ 10 ^ (18 - s) * 10 ^ s = ap (λ k. 10 ^ k) (sym all) ∙ pow-add 10 (18 - s) s in
    (div-lt_iff_lt-mul (positive s)).1 (subst (λ k. n < k) split small)

pub size_digits_count : (n s : ℕ) → s ≤ 18 → n < 10 ^ 18 → n / 10 ^ s < 2 ^ 64 → digit_count (whole_digits n s) (fraction_digits n s) ≤ 18
size_digits_count n s few small fits = rw (length-last_digits s n) (whole_count (n / 10 ^ s) s few (whole_below n s few small) fits)

in_few : {A : Type 0} (b : Bool) (value : A) → b ≡ false → (if b then None else Some value) ≡ Some value
in_few b value h = rw h refl

not_above : (k : ℕ) → k ≤ 18 → nat_lt 18 k ≡ false
not_above k h = grind (arith, nat_tests)

at_most : (a b : ℕ) → nat_le a b ≡ true → a ≤ b
at_most a b h = grind (arith, nat_tests)

below : (a b : ℕ) → nat_lt a b ≡ true → a < b
below a b h = grind (arith, nat_tests)

quotient_fits : (n s : ℕ) → n < 10 ^ 18 → n / 10 ^ s < 2 ^ 64
quotient_fits n s small = omega (arith, positive s, div-add-mod n (10 ^ s))

pub size_read : (size : ℕ × ℕ) → is_size size ≡ true → size_of (whole_digits size.0 size.1) (fraction_digits size.0 size.1) ≡ Some size
size_read (n, s) h =
    let first = both (nat_le s 18) _ h in
    let second = both (nat_lt n (10 ^ 18)) _ first.1 in
    let fits : n / 10 ^ s < 2 ^ 64 = quotient_fits n s (below n (10 ^ 18) second.0) in
    in_few (nat_lt 18 (digit_count (whole_digits n s) (fraction_digits n s))) _ (not_above _ (size_digits_count n s (at_most s 18 first.0) (below n (10 ^ 18) second.0) fits))
    ∙ ap Some (ap₂ lowest (size_digits_value n s fits) (length-last_digits s n) ∙ lowest_itself n s second.1)

pub digits_of_size : (size : ℕ × ℕ) → is_size size ≡ true → AreDigitsOf size (whole_digits size.0 size.1) (fraction_digits size.0 size.1)
digits_of_size (n, s) h =
    let first = both (nat_le s 18) _ h in
    let second = both (nat_lt n (10 ^ 18)) _ first.1 in
    let fits : n / 10 ^ s < 2 ^ 64 = quotient_fits n s (below n (10 ^ 18) second.0) in
    record {
      before = digits-decimal (n / 10 ^ s) fits;
      some = decimal_nonempty (n / 10 ^ s) fits;
      behind = last_digits_are s n;
      scale = length-last_digits s n;
      read = size_read (n, s) h;
    }

-- ---- values of sizes

signed_abs : (z : ℤ) → signed (is_below_zero z) (unsigned_abs z) ≡ z
signed_abs (pos n) = refl
signed_abs (negsuc n) = refl

-- what is tested of a decimal is what is tested of its size, which is not whole
size_tests : (few some ends small : Bool) (whole : Bool) → (some && (few && (small && ends))) ≡ true → (few && (small && (whole || ends))) ≡ true
size_tests true true true true true h = refl
size_tests true true true true false h = refl
size_tests false true ends small whole h = cc
size_tests few false ends small whole h = cc
size_tests true true false true whole h = cc
size_tests true true ends false whole h = cc

pub size_of_decimal : (d : Decimal) → is_size (unsigned_abs d.unscaled, d.scale) ≡ true
size_of_decimal d = size_tests (nat_le d.scale 18) (nat_le 1 d.scale) (not (unsigned_abs d.unscaled % 10 == 0)) (nat_lt (unsigned_abs d.unscaled) (10 ^ 18)) (d.scale == 0) d.normal

not_whole : (s : ℕ) (rest : Bool) → (nat_le 1 s && rest) ≡ true → (s == 0) ≡ false
not_whole zero rest h = cc
not_whole (suc s) rest h = grind (arith, nat_tests)

pub decimal_of_size : (d : Decimal) → size_value (is_below_zero d.unscaled) (unsigned_abs d.unscaled, d.scale) ≡ Value.Decimal d
decimal_of_size d =
    sym (as_size d (is_below_zero d.unscaled) (unsigned_abs d.unscaled, d.scale) (sym (signed_abs d.unscaled)) refl (not_whole d.scale _ d.normal))

pub number_of_size : (z : ℤ) → size_value (is_below_zero z) (unsigned_abs z, 0) ≡ Value.Number z
number_of_size z = ap Value.Number (signed_abs z)
