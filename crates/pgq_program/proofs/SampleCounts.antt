-- The number of persons that a word asks for is the one whose decimal it is.
use Rattle.std.proofs.Common.{suc, zero, ◌≡◌, refl, sym, ap, ◌∙◌, subst, ℕ, ◌+◌, ◌≤◌, ◌<◌, ◌⊎◌, inl, inr, Bool, true, false, cond, List, [], ◌∷◌, Option, None, Some, IfSome}
use Rattle.std.proofs.Common.{Result, Ok, Err, bytes_eq, arith}
use Rattle.std.specs.Prelude.{find, decimal, ◌^◌}
use Rattle.std.specs.List.{range_with_len}
use Rattle.std.specs.Cmp.Lexicographic.{bytes_decides}
use Rattle.std.specs.Str.Parse.{ParsesUnsigned}
use Rattle.std.proofs.lemmas.Fmt.{decimal_injective, parse-decimal}
use Rattle.pgq_program.specs.Commands.{sample_count}

spells : List ℕ → ℕ → Bool
spells word n = bytes_eq word (decimal n)

-- the word is the decimal of a number of these
record IsNumber (word : List ℕ) (first count n : ℕ) : Type 0 where
  least : first ≤ n
  most : n < first + count
  is : word ≡ decimal n

module _ (word : List ℕ) where
  found : (first count n : ℕ) → find (spells word) (range_with_len first count) ≡ Some n → IsNumber word first count n
  unfolding spells
  found first zero n e = absurd cc
  found first (suc count) n e = by (found (first + 1) count n) (spells word first) refl e
    where
      by : (find (spells word) (range_with_len (first + 1) count) ≡ Some n → IsNumber word (first + 1) count n) → (b : Bool) → spells word first ≡ b
          → cond b (Some first) (find (spells word) (range_with_len (first + 1) count)) ≡ Some n → IsNumber word first (suc count) n
      by more true s e =
          let same : first ≡ n = cc in
          record { least = omega (arith, same); most = omega (arith, same); is = (bytes_decides word (decimal first)).0 s ∙ ap decimal same }
      by more false s e =
          let later = more e in
          let least = later.least in
          let most = later.most in
          record { least = omega (arith, least); most = omega (arith, most); is = later.is }

  given : (first count n : ℕ) → first + count < 2 ^ 64 → IsNumber word first count n → find (spells word) (range_with_len first count) ≡ Some n
  unfolding spells
  given first zero n few is = absurd (let least = is.least in let most = is.most in omega (arith, least, most))
  given first (suc count) n few is = by (given (first + 1) count n (omega (arith, few))) (spells word first) refl
    where
      least : first ≤ n
      least = is.least

      most : n < first + suc count
      most = is.most

      by : (IsNumber word (first + 1) count n → find (spells word) (range_with_len (first + 1) count) ≡ Some n) → (b : Bool) → spells word first ≡ b
          → cond b (Some first) (find (spells word) (range_with_len (first + 1) count)) ≡ Some n
      by more true s = ap Some (decimal_injective first n (omega (arith, few)) (omega (arith, few, most)) (sym ((bytes_decides word (decimal first)).0 s) ∙ is.is))
      by more false s =
          let other : first ≡ n → ⊥ = λ same. absurd (let yes : spells word first ≡ true = (bytes_decides word (decimal first)).1 (is.is ∙ ap decimal (sym same)) in cc) in
          more (record { least = omega (arith, least, other); most = omega (arith, most); is = is.is })

pub count_within : (word : List ℕ) (n : ℕ) → sample_count word ≡ Some n → (1 ≤ n) × (n ≤ 2000)
unfolding sample_count spells
count_within word n e =
    let is = found word 1 2000 n e in
    let least = is.least in
    let most = is.most in
    (least, omega (arith, most))

pub count_is : (word : List ℕ) (n : ℕ) → 1 ≤ n → n ≤ 2000 → word ≡ decimal n → sample_count word ≡ Some n
unfolding sample_count spells
count_is word n least most is = given word 1 2000 n (omega arith) (record { least = least; most = omega (arith, most); is = is })

-- no number that the text is read as is the word's
pub no_count : {E : Type 0} (word : List ℕ) (read : Result ℕ E) → ParsesUnsigned 32 10 word read → ((n : ℕ) → read ≡ Ok n → 1 ≤ n → n ≤ 2000 → word ≡ decimal n → ⊥)
    → sample_count word ≡ None
unfolding sample_count spells
no_count word read parses never = by (sample_count word) refl
  where
    by : (count : Option ℕ) → sample_count word ≡ count → sample_count word ≡ None
    by None e = e
    by (Some n) e =
        let is = found word 1 2000 n e in
        let least = is.least in
        let most = is.most in
        absurd (never n (parse-decimal 32 n word read (omega (arith, most)) (omega (arith, most)) is.is parses) least (omega (arith, most)) is.is)

-- a word that is read as a number
module _ {E : Type 0} (word : List ℕ) (read : Result ℕ E) (parses : ParsesUnsigned 32 10 word read) (count : ℕ) (is : read ≡ Ok count) where
  same_number : (n : ℕ) → read ≡ Ok n → count ≡ n
  same_number n other = cc

  pub not_within : (count < 1) ⊎ ((1 ≤ count) × (2000 < count)) → sample_count word ≡ None
  not_within (inl low) = no_count word read parses (λ n other least most spelled. let same = same_number n other in absurd (omega (arith, low, least, same)))
  not_within (inr high) = no_count word read parses (λ n other least most spelled. let same = same_number n other in let above = high.1 in
      absurd (omega (arith, above, most, same)))

  pub other_text : bytes_eq (decimal count) word ≡ false → sample_count word ≡ None
  other_text differs = no_count word read parses (λ n other least most spelled.
      absurd (let yes : bytes_eq (decimal count) word ≡ true = (bytes_decides (decimal count) word).1 (ap decimal (same_number n other) ∙ sym spelled) in cc))
