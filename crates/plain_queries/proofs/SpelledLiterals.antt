-- The literals that the grammar spells have a text.
use Rattle.std.proofs.Common.{◌≡◌, refl, sym, ap, ◌∙◌, ℕ, zero, suc, ◌%◌, ◌^◌, ◌<◌, Bool, true, false, not, ◌&&◌, ◌||◌, ◌==◌, nat_lt, nat_le, cond, is_some, Some, None, List, ℤ}
use Rattle.std.proofs.Common.{pos, unsigned_abs, arith}
use Rattle.std.proofs.lemmas.Bool.Decides.{nat_tests}
use Rattle.jiff_core.proofs.SignedLemmas.{signed_arith}
use Rattle.pgq_base.specs.Numerals.{is_decimal, is_size, is_day}
use Rattle.pgq_base.specs.Signs.{signed}
use Rattle.pgq_base.specs.Sizes.{decimal_if, decimal_value, size_value}
use Rattle.pgq_base.specs.declared.date.Date.{Date}
use Rattle.pgq_base.specs.declared.value.Value.{Value}
use Rattle.pgq_base.specs.declared.value.Value.TheVariants.{Number, Text}
use Rattle.civil_dates.specs.Texts.{is_date_text, IsDateText}
use Rattle.civil_dates.proofs.DateTexts.{date_text_tells, date_record, is_day_between}
use Rattle.graph_meaning.proofs.Members.{both_parts, both_true}
use Rattle.sql_lexer.specs.declared.token.Kind.{Kind}
use Rattle.sql_lexer.specs.declared.token.Kind.TheVariants as k
use Rattle.sql_lexer.specs.declared.token.Token.{Token}
use Rattle.token_marks.specs.Marks.{mark}
use Rattle.token_grammar.specs.Rules.{on}
use Rattle.token_reading.specs.Tokens.{class}
use Rattle.condition_grammar.specs.Classes.{is_numeral, is_negatable, is_text, is_date_literal}
use Rattle.condition_grammar.specs.Dates.{date_value}
use Rattle.condition_grammar.specs.Conditions.{negative, literal_of, text_in}
use Rattle.condition_grammar.proofs.DateLemmas.{date_of_text}
use Rattle.condition_nodes.specs.Literals.{plain_value, negated_value, literal_text, literal_date}
use Rattle.condition_nodes.proofs.LiteralKinds.{plain_test, negated_test, text_test, date_test}
use Rattle.sql_algebra.specs.Printable.{is_number, is_literal}
use Rattle.plain_queries.proofs.WrittenTokens.{IsWritten, IsWrittenToken}

abbrev pub HasText : Value → Type 0
HasText v = is_literal v ≡ true

-- ---- numbers

small : (n : ℕ) → n < 10 ^ 18 → nat_lt n (2 ^ 63) ≡ true
small n h = grind (arith, nat_tests)

less_small : (n : ℕ) → suc n < 10 ^ 18 → nat_lt n (2 ^ 63) ≡ true
less_small n h = grind (arith, nat_tests)

signed_number : (negated : Bool) (n : ℕ) → n < 10 ^ 18 → is_number (signed negated n) ≡ true
signed_number false n h = small n h
signed_number true zero h = refl
signed_number true (suc n) h = less_small n h

up_to_limit : (n : ℕ) → nat_le (suc n) (2 ^ 63) ≡ true → nat_lt n (2 ^ 63) ≡ true
up_to_limit n h = grind (arith, nat_tests)

negative_number : (n : ℕ) → nat_le n (2 ^ 63) ≡ true → is_number (negative n) ≡ true
negative_number zero h = refl
negative_number (suc n) h = up_to_limit n h

-- ---- decimals

signed_size : (negated : Bool) (n : ℕ) → unsigned_abs (signed negated n) ≡ n
signed_size false n = refl
signed_size true zero = refl
signed_size true (suc n) = refl

some_scale : (s : ℕ) → (s == 0) ≡ false → nat_le 1 s ≡ true
some_scale s h = grind (arith, nat_tests)

below : (n m : ℕ) → nat_lt n m ≡ true → n < m
below n m h = grind (arith, nat_tests)

decimal_text : (u : ℤ) (s : ℕ) → is_decimal u s ≡ true → HasText (decimal_value u s)
decimal_text u s h = by (is_decimal u s) refl h
  where
    by : (b : Bool) (e : is_decimal u s ≡ b) → b ≡ true → HasText (decimal_if u s b e)
    by true e g = refl
    by false e g = absurd cc

sized_decimal : (negated : Bool) (n s : ℕ) → nat_le s 18 ≡ true → nat_lt n (10 ^ 18) ≡ true → (s == 0 || not (n % 10 == 0)) ≡ true → (s == 0) ≡ false
    → is_decimal (signed negated n) s ≡ true
sized_decimal negated n s few low whole scale =
    let last : not (n % 10 == 0) ≡ true = ap (λ b. b || not (n % 10 == 0)) (sym scale) ∙ whole in
    ap (λ m. nat_le 1 s && (nat_le s 18 && (nat_lt m (10 ^ 18) && not (m % 10 == 0)))) (signed_size negated n)
    ∙ both_true (nat_le 1 s) (nat_le s 18 && (nat_lt n (10 ^ 18) && not (n % 10 == 0))) (some_scale s scale)
    (both_true (nat_le s 18) (nat_lt n (10 ^ 18) && not (n % 10 == 0)) few (both_true (nat_lt n (10 ^ 18)) (not (n % 10 == 0)) low last))

size_text : (negated : Bool) (size : ℕ × ℕ) → is_size size ≡ true → HasText (size_value negated size)
size_text negated (n, s) h = by (s == 0) refl
  where
    first : (nat_le s 18 ≡ true) × ((nat_lt n (10 ^ 18) && (s == 0 || not (n % 10 == 0))) ≡ true)
    first = both_parts (nat_le s 18) (nat_lt n (10 ^ 18) && (s == 0 || not (n % 10 == 0))) h

    second : (nat_lt n (10 ^ 18) ≡ true) × ((s == 0 || not (n % 10 == 0)) ≡ true)
    second = both_parts (nat_lt n (10 ^ 18)) (s == 0 || not (n % 10 == 0)) first.1

    by : (b : Bool) → (s == 0) ≡ b → HasText (cond b (Number (signed negated n)) (decimal_value (signed negated n) s))
    by true e = signed_number negated n (below n (10 ^ 18) second.0)
    by false e = decimal_text (signed negated n) s (sized_decimal negated n s first.0 second.0 second.1 e)

given : {A : Type 0} (b : Bool) (v : A) → is_some (cond b (Some v) None) ≡ true → b ≡ true
given true v h = refl
given false v h = h

plain_kind : (kind : Kind) → is_some (plain_value kind) ≡ true → IsWritten kind → HasText (literal_of false kind)
plain_kind (k.Number n) h w = given (nat_lt n (2 ^ 63)) (Number (pos n)) h
plain_kind (k.Decimal size) h w = size_text false size w
plain_kind (k.Word bytes) h w = absurd cc
plain_kind (k.Delimited bytes) h w = absurd cc
plain_kind (k.Reserved place) h w = absurd cc
plain_kind (k.Literal text) h w = absurd cc
plain_kind (k.Symbol place) h w = absurd cc

negated_kind : (kind : Kind) → is_some (negated_value kind) ≡ true → IsWritten kind → HasText (literal_of true kind)
negated_kind (k.Number n) h w = negative_number n (given (nat_le n (2 ^ 63)) (Number (negative n)) h)
negated_kind (k.Decimal size) h w = size_text true size w
negated_kind (k.Word bytes) h w = absurd cc
negated_kind (k.Delimited bytes) h w = absurd cc
negated_kind (k.Reserved place) h w = absurd cc
negated_kind (k.Literal text) h w = absurd cc
negated_kind (k.Symbol place) h w = absurd cc

text_kind : (kind : Kind) → is_some (literal_text kind) ≡ true → IsWritten kind → HasText (Text (text_in kind))
text_kind (k.Literal text) h w = w
text_kind (k.Number n) h w = absurd cc
text_kind (k.Decimal size) h w = absurd cc
text_kind (k.Word bytes) h w = absurd cc
text_kind (k.Delimited bytes) h w = absurd cc
text_kind (k.Reserved place) h w = absurd cc
text_kind (k.Symbol place) h w = absurd cc

-- ---- dates

day_named : (text : List ℕ) (number : ℤ) → IsDateText text number → is_day number ≡ true
day_named text number h = ap is_day h.counted ∙ is_day_between (date_record h.year h.month h.day h.civil) (omega (arith, signed_arith, h.civil.year_in.0))

date_text : (text : List ℕ) → is_date_text text ≡ true → HasText (date_value text)
date_text text e =
    let found = (date_text_tells text).0 e in
    let date : Date = record { day = found.0; civil = day_named text found.0 found.1 } in
    ap is_literal (date_of_text text date found.1)

date_kind : (kind : Kind) → is_some (literal_date kind) ≡ true → HasText (date_value (text_in kind))
date_kind (k.Literal text) h = date_text text (given (is_date_text text) (date_value text) h)
date_kind (k.Number n) h = absurd cc
date_kind (k.Decimal size) h = absurd cc
date_kind (k.Word bytes) h = absurd cc
date_kind (k.Delimited bytes) h = absurd cc
date_kind (k.Reserved place) h = absurd cc
date_kind (k.Symbol place) h = absurd cc

-- ---- the tokens of literals

module _ (t : Token) where
  pub plain_token : on class is_numeral t ≡ true → IsWrittenToken t → HasText (literal_of false t.kind)
  unfolding class mark
  plain_token h w = plain_kind t.kind (sym (plain_test t.kind) ∙ h) w

  pub negated_token : on class is_negatable t ≡ true → IsWrittenToken t → HasText (literal_of true t.kind)
  unfolding class mark
  negated_token h w = negated_kind t.kind (sym (negated_test t.kind) ∙ h) w

  pub text_token : on class is_text t ≡ true → IsWrittenToken t → HasText (Text (text_in t.kind))
  unfolding class mark
  text_token h w = text_kind t.kind (sym (text_test t.kind) ∙ h) w

  pub date_token : on class is_date_literal t ≡ true → HasText (date_value (text_in t.kind))
  unfolding class mark
  date_token h = date_kind t.kind (sym (date_test t.kind) ∙ h)
