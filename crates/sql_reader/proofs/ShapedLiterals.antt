-- The value of a literal is not Null, where the decimals among the tokens are sizes.
use Rattle.std.proofs.Common.{◌≡◌, refl, sym, ap, ◌∙◌, ℕ, zero, suc, ◌%◌, ◌^◌, Bool, true, false, not, ◌&&◌, ◌||◌, ◌==◌, nat_lt, nat_le, cond, is_some, Some, None, List, ℤ}
use Rattle.std.proofs.Common.{unsigned_abs, arith}
use Rattle.std.proofs.lemmas.Bool.Decides.{nat_tests}
use Rattle.jiff_core.proofs.SignedLemmas.{signed_arith}
use Rattle.pgq_base.specs.Numerals.{is_decimal, is_size, is_day}
use Rattle.pgq_base.specs.Signs.{signed}
use Rattle.pgq_base.specs.Sizes.{decimal_if, decimal_value, size_value}
use Rattle.pgq_base.specs.Values.{class_of_value}
use Rattle.pgq_base.specs.declared.date.Date.{Date}
use Rattle.pgq_base.specs.declared.value.Value.{Value}
use Rattle.pgq_base.specs.declared.value.Value.TheVariants.{Number}
use Rattle.civil_dates.specs.Texts.{is_date_text, IsDateText}
use Rattle.civil_dates.proofs.DateTexts.{date_text_tells, date_record, is_day_between}
use Rattle.sql_lexer.specs.declared.token.Kind.{Kind}
use Rattle.sql_lexer.specs.declared.token.Kind.TheVariants as k
use Rattle.sql_lexer.specs.declared.token.Token.{Token}
use Rattle.token_marks.specs.Marks.{mark}
use Rattle.token_grammar.specs.Rules.{on}
use Rattle.token_reading.specs.Tokens.{class}
use Rattle.condition_grammar.specs.Classes.{is_date_literal}
use Rattle.condition_grammar.specs.Dates.{date_value}
use Rattle.condition_grammar.specs.Conditions.{literal_of, text_in}
use Rattle.condition_grammar.proofs.DateLemmas.{date_of_text}
use Rattle.condition_nodes.specs.Literals.{literal_date}
use Rattle.condition_nodes.proofs.LiteralKinds.{date_test}
use Rattle.sql_reader.specs.Shapes.{IsSized}
use Rattle.sql_reader.proofs.Clean.{both, pair}

abbrev pub HasClass : Value → Type 0
HasClass v = is_some (class_of_value v) ≡ true

-- ---- decimals

signed_size : (negated : Bool) (n : ℕ) → unsigned_abs (signed negated n) ≡ n
signed_size false n = refl
signed_size true zero = refl
signed_size true (suc n) = refl

some_scale : (s : ℕ) → (s == 0) ≡ false → nat_le 1 s ≡ true
some_scale s h = grind (arith, nat_tests)

decimal_some : (u : ℤ) (s : ℕ) → is_decimal u s ≡ true → HasClass (decimal_value u s)
decimal_some u s h = by (is_decimal u s) refl h
  where
    by : (b : Bool) (e : is_decimal u s ≡ b) → b ≡ true → HasClass (decimal_if u s b e)
    by true e g = refl
    by false e g = absurd cc

sized_decimal : (negated : Bool) (n s : ℕ) → is_size (n, s) ≡ true → (s == 0) ≡ false → is_decimal (signed negated n) s ≡ true
sized_decimal negated n s h scale =
    let low = both (nat_le s 18) (nat_lt n (10 ^ 18) && (s == 0 || not (n % 10 == 0))) h in
    let few = both (nat_lt n (10 ^ 18)) (s == 0 || not (n % 10 == 0)) low.1 in
    let last : not (n % 10 == 0) ≡ true = ap (λ b. b || not (n % 10 == 0)) (sym scale) ∙ few.1 in
    ap (λ m. nat_le 1 s && (nat_le s 18 && (nat_lt m (10 ^ 18) && not (m % 10 == 0)))) (signed_size negated n)
    ∙ pair (nat_le 1 s) (nat_le s 18 && (nat_lt n (10 ^ 18) && not (n % 10 == 0))) (some_scale s scale)
    (pair (nat_le s 18) (nat_lt n (10 ^ 18) && not (n % 10 == 0)) low.0 (pair (nat_lt n (10 ^ 18)) (not (n % 10 == 0)) few.0 last))

size_some : (negated : Bool) (size : ℕ × ℕ) → is_size size ≡ true → HasClass (size_value negated size)
size_some negated (n, s) h = by (s == 0) refl
  where
    by : (b : Bool) → (s == 0) ≡ b → HasClass (cond b (Number (signed negated n)) (decimal_value (signed negated n) s))
    by true e = refl
    by false e = decimal_some (signed negated n) s (sized_decimal negated n s h e)

pub literal_some : (negated : Bool) (kind : Kind) → IsSized kind → HasClass (literal_of negated kind)
literal_some negated (k.Decimal size) h = size_some negated size h
literal_some negated (k.Word w) h = refl
literal_some negated (k.Delimited w) h = refl
literal_some negated (k.Reserved n) h = refl
literal_some negated (k.Number n) h = refl
literal_some negated (k.Literal t) h = refl
literal_some negated (k.Symbol n) h = refl

-- ---- dates

day_named : (text : List ℕ) (number : ℤ) → IsDateText text number → is_day number ≡ true
day_named text number h = ap is_day h.counted ∙ is_day_between (date_record h.year h.month h.day h.civil) (omega (arith, signed_arith, h.civil.year_in.0))

date_some : (text : List ℕ) → is_date_text text ≡ true → HasClass (date_value text)
date_some text e =
    let found = (date_text_tells text).0 e in
    let date : Date = record { day = found.0; civil = day_named text found.0 found.1 } in
    ap (λ v. is_some (class_of_value v)) (date_of_text text date found.1)

given : (b : Bool) (v : Value) → is_some (cond b (Some v) None) ≡ true → b ≡ true
given true v h = refl
given false v h = h

date_kind : (kind : Kind) → is_some (literal_date kind) ≡ true → HasClass (date_value (text_in kind))
date_kind (k.Literal t) h = date_some t (given (is_date_text t) (date_value t) h)
date_kind (k.Word w) h = absurd cc
date_kind (k.Delimited w) h = absurd cc
date_kind (k.Reserved n) h = absurd cc
date_kind (k.Number n) h = absurd cc
date_kind (k.Decimal size) h = absurd cc
date_kind (k.Symbol n) h = absurd cc

pub date_token : (t : Token) → on class is_date_literal t ≡ true → HasClass (date_value (text_in t.kind))
unfolding class mark
date_token t h = date_kind t.kind (sym (date_test t.kind) ∙ h)
