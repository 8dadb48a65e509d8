-- What the classes of tokens tell.
use Rattle.std.proofs.Common.{◌≡◌, refl, ℕ, zero, suc, ◌^◌, ◌<◌, Bool, true, false, not, ◌==◌, nat_lt, cond, Option, None, Some, List, [], ◌∷◌, map, length, get_or, bytes_eq}
use Rattle.std.proofs.Common.{is_some, arith}
use Rattle.std.specs.List.{list_all, position}
use Rattle.std.proofs.lemmas.List.Quantifiers.{position-Some}
use Rattle.sql_lexer.specs.declared.token.Kind.{Kind}
use Rattle.sql_lexer.specs.declared.token.Kind.TheVariants as k
use Rattle.sql_lexer.specs.declared.token.Token.{Token}
use Rattle.token_grammar.proofs.Tests.{and_left, and_right}
use Rattle.token_marks.specs.declared.mark.Mark.{Mark}
use Rattle.token_marks.specs.declared.mark.Mark.TheVariants as m
use Rattle.token_marks.specs.Marks.{text_of, reserved_marks, symbol_marks, bare_marks, bare_mark, bare_mark_at, mark_at, kind_mark, mark, number_of}
use Rattle.civil_dates.specs.Texts.{is_date_text}
use Rattle.token_reading.specs.Tokens.{class, is_mark, is_word, is_name, name_bytes, word_bytes, small_number}

-- what passes at each item passes at any place, where it passes at what stands for a missing one
each_or : {A : Type 0} (p : A → Bool) (xs : List A) (i : ℕ) (d : A) → list_all p xs ≡ true → p d ≡ true → p (get_or xs i d) ≡ true
each_or p [] i d h k = k
each_or p (x ∷ xs) zero d h k = and_left (p x) (list_all p xs) h
each_or p (x ∷ xs) (suc i) d h k = each_or p xs i d (and_right (p x) (list_all p xs) h) k

each_in : {A : Type 0} (p : A → Bool) (xs : List A) (i : ℕ) (d : A) → list_all p xs ≡ true → i < length xs → p (get_or xs i d) ≡ true
each_in p [] i d h l = absurd (omega arith)
each_in p (x ∷ xs) zero d h l = and_left (p x) (list_all p xs) h
each_in p (x ∷ xs) (suc i) d h l = each_in p xs i d (and_right (p x) (list_all p xs) h) (omega arith)

bare_at : (p : Mark → Bool) → list_all p bare_marks ≡ true → p m.OtherWord ≡ true → (w : List ℕ) (o : Option ℕ) → position (λ text. bytes_eq text w) (map text_of bare_marks)
    ≡ o → p (bare_mark_at o) ≡ true
bare_at p h k w None e = k
bare_at p h k w (Some i) e = let q = position-Some (λ text. bytes_eq text w) (map text_of bare_marks) i [] e in each_in p bare_marks i m.Nothing h q.0

-- a test that all marks of bare words pass
bare_passes : (p : Mark → Bool) → list_all p bare_marks ≡ true → p m.OtherWord ≡ true → (w : List ℕ) → p (bare_mark w) ≡ true
unfolding bare_mark
bare_passes p h k w = bare_at p h k w (position (λ text. bytes_eq text w) (map text_of bare_marks)) refl

not_true : (b : Bool) → not b ≡ true → b ≡ false
not_true true h = absurd cc
not_true false h = refl

-- a test that no mark of a bare word, of a reserved word, of a symbol passes
bare_fails : (p : Mark → Bool) → list_all (λ x. not (p x)) bare_marks ≡ true → not (p m.OtherWord) ≡ true → (w : List ℕ) → p (bare_mark w) ≡ false
bare_fails p h k w = not_true (p (bare_mark w)) (bare_passes (λ x. not (p x)) h k w)

reserved_fails : (p : Mark → Bool) → list_all (λ x. not (p x)) reserved_marks ≡ true → not (p m.Nothing) ≡ true → (i : ℕ) → p (mark_at reserved_marks i) ≡ false
reserved_fails p h k i = not_true (p (mark_at reserved_marks i)) (each_or (λ x. not (p x)) reserved_marks i m.Nothing h k)

symbol_fails : (p : Mark → Bool) → list_all (λ x. not (p x)) symbol_marks ≡ true → not (p m.Nothing) ≡ true → (i : ℕ) → p (mark_at symbol_marks i) ≡ false
symbol_fails p h k i = not_true (p (mark_at symbol_marks i)) (each_or (λ x. not (p x)) symbol_marks i m.Nothing h k)

if_fails : (p : Mark → Bool) (b : Bool) (x y : Mark) → p x ≡ false → p y ≡ false → p (cond b x y) ≡ false
if_fails p true x y h k = h
if_fails p false x y h k = k

abbrev names : Mark → Bool
names x = is_name (number_of x)

pub name_kind : (kind : Kind) → is_name (number_of (kind_mark kind)) ≡ is_some (name_bytes kind)
name_kind (k.Word w) = bare_passes names refl refl w
name_kind (k.Delimited w) = refl
name_kind (k.Reserved n) = reserved_fails names refl refl n
name_kind (k.Number n) = if_fails names (nat_lt n (2 ^ 63)) m.Number (cond (n == 2 ^ 63) m.Limit m.Nothing) refl (if_fails names (n == 2 ^ 63) m.Limit m.Nothing refl refl)
name_kind (k.Literal t) = if_fails names (is_date_text t) m.DateLiteral m.Literal refl refl
name_kind (k.Decimal t) = refl
name_kind (k.Symbol n) = symbol_fails names refl refl n

abbrev words : Mark → Bool
words x = is_word (number_of x)

pub word_kind : (kind : Kind) → is_word (number_of (kind_mark kind)) ≡ is_some (word_bytes kind)
word_kind (k.Word w) = bare_passes words refl refl w
word_kind (k.Delimited w) = refl
word_kind (k.Reserved n) = reserved_fails words refl refl n
word_kind (k.Number n) = if_fails words (nat_lt n (2 ^ 63)) m.Number (cond (n == 2 ^ 63) m.Limit m.Nothing) refl (if_fails words (n == 2 ^ 63) m.Limit m.Nothing refl refl)
word_kind (k.Literal t) = if_fails words (is_date_text t) m.DateLiteral m.Literal refl refl
word_kind (k.Decimal t) = refl
word_kind (k.Symbol n) = symbol_fails words refl refl n

abbrev numbers : Mark → Bool
numbers x = number_of x == number_of m.Number

small_kind : (n : ℕ) (b c : Bool) → numbers (cond b m.Number (cond c m.Limit m.Nothing)) ≡ is_some (cond b (Some n) None)
small_kind n true c = refl
small_kind n false true = refl
small_kind n false false = refl

pub number_kind : (kind : Kind) → (number_of (kind_mark kind) == number_of m.Number) ≡ is_some (small_number kind)
number_kind (k.Word w) = bare_fails numbers refl refl w
number_kind (k.Delimited w) = refl
number_kind (k.Reserved n) = reserved_fails numbers refl refl n
number_kind (k.Number n) = small_kind n (nat_lt n (2 ^ 63)) (n == 2 ^ 63)
number_kind (k.Literal t) = if_fails numbers (is_date_text t) m.DateLiteral m.Literal refl refl
number_kind (k.Decimal t) = refl
number_kind (k.Symbol n) = symbol_fails numbers refl refl n

pub name_class : (x : Token) → is_name (class x) ≡ is_some (name_bytes x.kind)
unfolding class mark
name_class x = name_kind x.kind

pub word_class : (x : Token) → is_word (class x) ≡ is_some (word_bytes x.kind)
unfolding class mark
word_class x = word_kind x.kind

pub number_class : (x : Token) → is_mark m.Number x ≡ is_some (small_number x.kind)
unfolding class mark
number_class x = number_kind x.kind
