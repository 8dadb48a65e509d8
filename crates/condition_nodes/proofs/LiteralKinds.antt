-- Which kinds of tokens are literals.
use Rattle.std.proofs.Common.{◌≡◌, refl, sym, ap, ◌∙◌, ℕ, ℤ, zero, suc, ◌^◌, Bool, true, false, not, ◌||◌, ◌==◌, nat_lt, nat_le, cond, Option, None, Some, List, [], ◌∷◌, map}
use Rattle.std.proofs.Common.{get_or, bytes_eq, is_some, IfSome, arith}
use Rattle.std.specs.List.{list_all, position}
use Rattle.std.proofs.lemmas.Bool.Decides.{nat_tests}
use Rattle.pgq_base.specs.declared.value.Value.{Value}
use Rattle.pgq_base.specs.declared.value.Value.TheVariants as value
use Rattle.pgq_base.specs.declared.date.Date.{Date}
use Rattle.civil_dates.specs.Texts.{is_date_text, IsDateText}
use Rattle.civil_dates.proofs.DateTexts.{date_text_tells}
use Rattle.sql_lexer.specs.declared.token.Kind.{Kind}
use Rattle.sql_lexer.specs.declared.token.Kind.TheVariants as k
use Rattle.token_marks.specs.declared.mark.Mark.{Mark}
use Rattle.token_marks.specs.declared.mark.Mark.TheVariants as m
use Rattle.token_marks.specs.Marks.{text_of, bare_marks, reserved_marks, symbol_marks, bare_mark, bare_mark_at, kind_mark, number_of}
use Rattle.token_grammar.proofs.Tests.{and_left, and_right}
use Rattle.condition_grammar.specs.Classes.{is_numeral, is_negatable, is_text, is_date_literal}
use Rattle.condition_grammar.specs.Dates.{date_value}
use Rattle.condition_grammar.specs.Conditions.{literal_of, text_in}
use Rattle.condition_grammar.proofs.DateLemmas.{date_of_text}
use Rattle.condition_nodes.specs.Literals.{plain_value, negated_value, literal_text, literal_date}

-- ---- tests that no word and no symbol passes

not_true : (b : Bool) → not b ≡ true → b ≡ false
not_true true h = absurd cc
not_true false h = refl

module _ (p : ℕ → Bool) (nothing : p (number_of m.Nothing) ≡ false) where
  fails_at : (marks : List Mark) → list_all (λ (x : Mark). not (p (number_of x))) marks ≡ true → (n : ℕ) → p (number_of (get_or marks n m.Nothing)) ≡ false
  fails_at [] h n = nothing
  fails_at (x ∷ marks) h zero = not_true (p (number_of x)) (and_left (not (p (number_of x))) (list_all (λ (x : Mark). not (p (number_of x))) marks) h)
  fails_at (x ∷ marks) h (suc n) = fails_at marks (and_right (not (p (number_of x))) (list_all (λ (x : Mark). not (p (number_of x))) marks) h) n

  no_word_at : p (number_of m.OtherWord) ≡ false → list_all (λ (x : Mark). not (p (number_of x))) bare_marks ≡ true → (o : Option ℕ) → p (number_of (bare_mark_at o)) ≡ false
  no_word_at other h None = other
  no_word_at other h (Some n) = fails_at bare_marks h n

  no_word : p (number_of m.OtherWord) ≡ false → list_all (λ (x : Mark). not (p (number_of x))) bare_marks ≡ true → (w : List ℕ) → p (number_of (bare_mark w)) ≡ false
  unfolding bare_mark
  no_word other h w = no_word_at other h (position (λ text. bytes_eq text w) (map text_of bare_marks))

-- ---- numbers and decimals

small : (b c : Bool) (v : Value) → is_numeral (number_of (cond b m.Number (cond c m.Limit m.Nothing))) ≡ is_some (cond b (Some v) None)
small true c v = refl
small false true v = refl
small false false v = refl

neither : (b : Bool) (p : ℕ → Bool) → p (number_of m.Literal) ≡ false → p (number_of m.DateLiteral) ≡ false → p (number_of (cond b m.DateLiteral m.Literal)) ≡ false
neither true p h i = i
neither false p h i = h

pub plain_test : (kind : Kind) → is_numeral (number_of (kind_mark kind)) ≡ is_some (plain_value kind)
plain_test (k.Word w) = no_word is_numeral refl refl refl w
plain_test (k.Delimited w) = refl
plain_test (k.Reserved n) = fails_at is_numeral refl reserved_marks refl n
plain_test (k.Number n) = small (nat_lt n (2 ^ 63)) (n == 2 ^ 63) _
plain_test (k.Decimal size) = refl
plain_test (k.Literal t) = neither (is_date_text t) is_numeral refl refl
plain_test (k.Symbol n) = fails_at is_numeral refl symbol_marks refl n

if_some : {A : Type 0} (b : Bool) (a : A) → IfSome (cond b (Some a) None) (λ x. a ≡ x)
if_some true a = refl
if_some false a = tt

pub plain_means : (kind : Kind) → IfSome (plain_value kind) (λ v. literal_of false kind ≡ v)
plain_means (k.Word w) = tt
plain_means (k.Delimited w) = tt
plain_means (k.Reserved n) = tt
plain_means (k.Number n) = if_some (nat_lt n (2 ^ 63)) (literal_of false (k.Number n))
plain_means (k.Decimal size) = refl
plain_means (k.Literal t) = tt
plain_means (k.Symbol n) = tt

up_to : (n m : ℕ) → nat_le n m ≡ (nat_lt n m || n == m)
up_to n m = grind (arith, nat_tests)

limited : (b c : Bool) (v : Value) → is_negatable (number_of (cond b m.Number (cond c m.Limit m.Nothing))) ≡ is_some (cond (b || c) (Some v) None)
limited true c v = refl
limited false true v = refl
limited false false v = refl

pub negated_test : (kind : Kind) → is_negatable (number_of (kind_mark kind)) ≡ is_some (negated_value kind)
negated_test (k.Word w) = no_word is_negatable refl refl refl w
negated_test (k.Delimited w) = refl
negated_test (k.Reserved n) = fails_at is_negatable refl reserved_marks refl n
negated_test (k.Number n) = limited (nat_lt n (2 ^ 63)) (n == 2 ^ 63) (literal_of true (k.Number n)) ∙ ap (λ b. is_some (cond b (Some (literal_of true (k.Number n))) None))
    (sym (up_to n (2 ^ 63)))
negated_test (k.Decimal size) = refl
negated_test (k.Literal t) = neither (is_date_text t) is_negatable refl refl
negated_test (k.Symbol n) = fails_at is_negatable refl symbol_marks refl n

pub negated_means : (kind : Kind) → IfSome (negated_value kind) (λ v. literal_of true kind ≡ v)
negated_means (k.Word w) = tt
negated_means (k.Delimited w) = tt
negated_means (k.Reserved n) = tt
negated_means (k.Number n) = if_some (nat_le n (2 ^ 63)) (literal_of true (k.Number n))
negated_means (k.Decimal size) = refl
negated_means (k.Literal t) = tt
negated_means (k.Symbol n) = tt

-- ---- character literals

no_text : (b c : Bool) → is_text (number_of (cond b m.Number (cond c m.Limit m.Nothing))) ≡ false
no_text true c = refl
no_text false true = refl
no_text false false = refl

either_text : (b : Bool) → is_text (number_of (cond b m.DateLiteral m.Literal)) ≡ true
either_text true = refl
either_text false = refl

pub text_test : (kind : Kind) → is_text (number_of (kind_mark kind)) ≡ is_some (literal_text kind)
text_test (k.Word w) = no_word is_text refl refl refl w
text_test (k.Delimited w) = refl
text_test (k.Reserved n) = fails_at is_text refl reserved_marks refl n
text_test (k.Number n) = no_text (nat_lt n (2 ^ 63)) (n == 2 ^ 63)
text_test (k.Decimal size) = refl
text_test (k.Literal t) = either_text (is_date_text t)
text_test (k.Symbol n) = fails_at is_text refl symbol_marks refl n

pub text_means : (kind : Kind) → IfSome (literal_text kind) (λ t. text_in kind ≡ t)
text_means (k.Word w) = tt
text_means (k.Delimited w) = tt
text_means (k.Reserved n) = tt
text_means (k.Number n) = tt
text_means (k.Decimal size) = tt
text_means (k.Literal t) = refl
text_means (k.Symbol n) = tt

-- ---- those of dates

no_date : (b c : Bool) → is_date_literal (number_of (cond b m.Number (cond c m.Limit m.Nothing))) ≡ false
no_date true c = refl
no_date false true = refl
no_date false false = refl

dated_if : (b : Bool) (v : Value) → is_date_literal (number_of (cond b m.DateLiteral m.Literal)) ≡ is_some (cond b (Some v) None)
dated_if true v = refl
dated_if false v = refl

pub date_test : (kind : Kind) → is_date_literal (number_of (kind_mark kind)) ≡ is_some (literal_date kind)
date_test (k.Word w) = no_word is_date_literal refl refl refl w
date_test (k.Delimited w) = refl
date_test (k.Reserved n) = fails_at is_date_literal refl reserved_marks refl n
date_test (k.Number n) = no_date (nat_lt n (2 ^ 63)) (n == 2 ^ 63)
date_test (k.Decimal size) = refl
date_test (k.Literal t) = dated_if (is_date_text t) (date_value t)
date_test (k.Symbol n) = fails_at is_date_literal refl symbol_marks refl n

pub date_means : (kind : Kind) → IfSome (literal_date kind) (λ v. date_value (text_in kind) ≡ v)
date_means (k.Word w) = tt
date_means (k.Delimited w) = tt
date_means (k.Reserved n) = tt
date_means (k.Number n) = tt
date_means (k.Decimal size) = tt
date_means (k.Literal t) = if_some (is_date_text t) (date_value t)
date_means (k.Symbol n) = tt

-- ---- what a reader of dates answers

pub dated : (text : List ℕ) (date : Date) → IsDateText text date.day → Some (value.Date date) ≡ cond (is_date_text text) (Some (date_value text)) None
dated text date h = sym (ap (λ b. cond b (Some (date_value text)) None) ((date_text_tells text).1 (date.day, h)) ∙ ap Some (date_of_text text date h))

pub undated : (text : List ℕ) → ((number : ℤ) → IsDateText text number → ⊥) → None ≡ cond (is_date_text text) (Some (date_value text)) None
undated text h = by (is_date_text text) refl
  where
    by : (b : Bool) → is_date_text text ≡ b → None ≡ cond b (Some (date_value text)) None
    by true e = let found = (date_text_tells text).0 e in absurd (h found.0 found.1)
    by false e = refl
