-- Each class is below the count, and a token has it.
use Rattle.std.proofs.Common.{◌≡◌, refl, sym, subst, ℕ, zero, suc, ◌-◌, ◌^◌, ◌<◌, Bool, true, ◌&&◌, ◌==◌, nat_lt, cond, codes, List, [], ◌∷◌, map, length, get_or, slice_get}
use Rattle.std.proofs.Common.{Some, ◌⊎◌, inl, inr, arith}
use Rattle.std.proofs.lemmas.Bool.{cases_order}
use Rattle.std.proofs.lemmas.Bool.Decides.{nat_tests}
use Rattle.sql_lexer.specs.declared.token.Kind.{Kind}
use Rattle.sql_lexer.specs.declared.token.Kind.TheVariants as k
use Rattle.sql_lexer.specs.declared.token.Token.{Token}
use Rattle.token_grammar.proofs.Tests.{and_left, and_right}
use Rattle.civil_dates.specs.Texts.{is_date_text}
use Rattle.token_marks.specs.Marks.{text_of, all_marks, bare_marks, bare_mark, kind_mark, mark, number_of}
use Rattle.token_marks.proofs.MarkTables.{numbered}
use Rattle.token_reading.specs.Tokens.{class, class_count}

inside : {A : Type 0} (xs : List A) (i : ℕ) (x : A) → slice_get xs i ≡ Some x → i < length xs
inside [] i x h = absurd cc
inside (y ∷ xs) zero x h = omega arith
inside (y ∷ xs) (suc i) x h = let l = inside xs i x h in omega (arith, l)

pub below : (token : Token) → class token < class_count
unfolding class
below token = inside all_marks (number_of (mark token)) (mark token) (numbered (mark token))

abbrev kind_of : ℕ → Kind
kind_of n = cond (nat_lt n 44) (k.Reserved n) (cond (nat_lt n 69) (k.Symbol (n - 44)) (cond (nat_lt n 104) (k.Word (get_or (map text_of bare_marks) (n - 69) []))
    (cond (n == 104) (k.Word (codes "X")) (cond (n == 105) (k.Delimited (codes "X")) (cond (n == 106) (k.Number 0) (cond (n == 107) (k.Number (2 ^ 63))
    (cond (n == 108) (k.Decimal (0, 0)) (cond (n == 109) (k.Literal []) (cond (n == 110) (k.Literal (codes "2000-01-01")) (k.Reserved 44))))))))))

-- a token of the class
abbrev pub sample : ℕ → Token
sample n = record { kind = kind_of n; span = record { from = 0; to = 0 } }

abbrev is_sampled : ℕ → Bool
is_sampled n = number_of (kind_mark (kind_of n)) == n

abbrev all_sampled : ℕ → Bool
all_sampled zero = true
all_sampled (suc n) = is_sampled n && all_sampled n

each : (n : ℕ) → all_sampled n ≡ true → (c : ℕ) → c < n → is_sampled c ≡ true
each zero h c l = absurd (omega arith)
each (suc n) h c l = at (cases_order c n) (λ q. each n (and_right (is_sampled n) (all_sampled n) h) c q) where
  at : (c ≡ n) ⊎ ((c < n) ⊎ (n < c)) → (c < n → is_sampled c ≡ true) → is_sampled c ≡ true
  at (inl q) r = subst (λ i. is_sampled i ≡ true) (sym q) (and_left (is_sampled n) (all_sampled n) h)
  at (inr (inl q)) r = r q
  at (inr (inr q)) r = absurd (omega arith)

all : all_sampled class_count ≡ true
unfolding bare_mark is_date_text
all = refl

equal : (n m : ℕ) → (n == m) ≡ true → n ≡ m
equal n m h = grind (arith, nat_tests)

pub sampled : (c : ℕ) → c < class_count → class (sample c) ≡ c
unfolding class mark
sampled c h = equal (number_of (kind_mark (kind_of c))) c (each class_count all c h)

pub reached : (c : ℕ) → c < class_count → (token : Token) × (class token ≡ c)
reached c h = (sample c, sampled c h)
