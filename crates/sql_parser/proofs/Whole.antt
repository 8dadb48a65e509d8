-- Whole SQL texts.
use Rattle.std.proofs.Common.{◌≡◌, refl, sym, ap, ◌∙◌, ℕ, ◌+◌, ◌≤◌, List, drop, length, slice_get, ◌-◌, Result, Ok, Err, arith}
use Rattle.pgq_base.specs.declared.refusal.Role.TheVariants.{Sql}
use Rattle.pgq_base.specs.declared.refusal.Detail.TheVariants as detail
use Rattle.pgq_base.specs.declared.refusal.Refusal.{Refusal}
use Rattle.sql_lexer.specs.declared.token.Token.{Token}
use Rattle.sql_algebra.specs.declared.text.SqlText.{SqlText}
use Rattle.token_grammar.specs.Rules.{on}
use Rattle.token_grammar.specs.Parser.{Answer, finish}
use Rattle.token_grammar.specs.Parser.Answer.{got, fault}
use Rattle.token_grammar.specs.Texts.{FirstFault}
use Rattle.token_grammar.specs.declared.fault.Cause.{Cause}
use Rattle.token_grammar.proofs.Whole as whole
use Rattle.token_grammar.proofs.Firsts.{one_fault, no_fault}
use Rattle.token_reading.specs.Tokens.{class, class_count}
use Rattle.sql_algebra.specs.Grammar.{sql, inside, sql_text}
use Rattle.sql_algebra.proofs.OneText.{one_text}
use Rattle.sql_algebra.proofs.Sure.{sure, decided, sums, counted, has}
use Rattle.sql_parser.specs.Reading.{reads, at_depth}
use Rattle.sql_parser.specs.Outcomes.{SpellsSql, IsShallow, IsFirstFault, IsOutcome, opens, closes, span_at, code_for}
use Rattle.token_reading.proofs.RefusalLemmas.{at_place, made, same_refusal}
use Rattle.token_reading.proofs.Samples.{below, sample, sampled}

module _ (ts us : List Token) (same : us ≡ ts) where
  moved : (a : Answer Token SqlText) → finish (reads (at_depth 128) sql us) ≡ a → finish (reads (at_depth 128) sql ts) ≡ a
  moved a h = ap (λ l. finish (reads (at_depth 128) sql l)) (sym same) ∙ h

  pub ok : (text : SqlText) (left : List Token) → finish (reads (at_depth 128) sql us) ≡ got text left → SpellsSql ts text
  ok text left h = (128, whole.sound class class_count below sample sampled inside decided 1 has opens closes counted sql sure sums 128 ts text left (moved (got text left) h))

  pub shallow : (text : SqlText) (left : List Token) → finish (reads (at_depth 128) sql us) ≡ got text left → IsShallow ts
  shallow text left h = whole.low class class_count below sample sampled inside decided 1 has opens closes counted sql sure sums 128 ts text left (moved (got text left) h)

  pub left_short : (c : Cause) (left : List Token) → finish (reads (at_depth 128) sql us) ≡ fault c left → length left ≤ length ts
  left_short c left h = whole.left_short class class_count below sample sampled inside decided 1 has opens closes counted sql sure sums 128 ts c left (moved (fault c left) h)

  pub first : (c : Cause) (left : List Token) (at : ℕ) → finish (reads (at_depth 128) sql us) ≡ fault c left → at + length left ≡ length ts → FirstFault (on class opens)
      (on class closes) sql_text 128 ts c (drop at ts)
  first c left at h l = whole.fault_at class class_count below sample sampled inside decided 1 has opens closes counted sql sure sums 128 ts c left at (moved (fault c left) h) l

-- ---- one outcome

first_same : (ts : List Token) (end : ℕ) (a b : Refusal) → IsFirstFault ts end a → IsFirstFault ts end b → a ≡ b
first_same ts end a b f g =
    let q = one_fault (on class opens) (on class closes) sql_text 128 ts f.cause g.cause (drop f.place ts) (drop g.place ts) f.first g.first in
    let place : span_at end (slice_get ts f.place) ≡ span_at end (slice_get ts g.place) = at_place end f.place ts ∙ ap (λ l. span_at end (slice_get l 0)) q.1 ∙ sym
    (at_place end g.place ts) in
    same_refusal a b (f.role ∙ sym g.role) (f.span ∙ place ∙ sym g.span) (f.code ∙ ap code_for q.0 ∙ sym g.code) (f.detail ∙ sym g.detail)

pub one_outcome : (ts : List Token) (end : ℕ) (a b : Result SqlText Refusal) → IsOutcome ts end a → IsOutcome ts end b → a ≡ b
one_outcome ts end (Ok t) (Ok u) f g = ap Ok (one_text ts t u f.0 g.0)
one_outcome ts end (Ok t) (Err r) f g = absurd (no_fault (on class opens) (on class closes) sql_text 128 ts t f.0 f.1 g.cause (drop g.place ts) g.first)
one_outcome ts end (Err r) (Ok t) f g = absurd (no_fault (on class opens) (on class closes) sql_text 128 ts t g.0 g.1 f.cause (drop f.place ts) f.first)
one_outcome ts end (Err r) (Err s) f g = ap Err (first_same ts end r s f g)

pub some_outcome : (ts : List Token) (end : ℕ) → (due : Result SqlText Refusal) × IsOutcome ts end due
some_outcome ts end = by_answer (finish (reads (at_depth 128) sql ts)) refl where
  by_answer : (a : Answer Token SqlText) → finish (reads (at_depth 128) sql ts) ≡ a → (due : Result SqlText Refusal) × IsOutcome ts end due
  by_answer (got text left) h = (Ok text, (ok ts ts refl text left h, shallow ts ts refl text left h))
  by_answer (fault c left) h =
      let place = length ts - length left in
      let short : length left ≤ length ts = left_short ts ts refl c left h in (
        Err (made Sql (span_at end (slice_get ts place)) (code_for c) detail.Nothing),
        record {
          role = refl;
          detail = refl;
          cause = c;
          code = refl;
          place = place;
          first = first ts ts refl c left place h (omega (arith, short));
          span = refl;
        },
      )
