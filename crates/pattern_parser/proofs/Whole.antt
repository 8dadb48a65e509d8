-- Whole query texts.
use Rattle.std.proofs.Common.{◌≡◌, refl, sym, ap, ◌∙◌, ℕ, ◌+◌, ◌≤◌, List, drop, length, slice_get, ◌-◌, Result, Ok, Err, arith}
use Rattle.pgq_base.specs.declared.refusal.Role.TheVariants.{Query}
use Rattle.pgq_base.specs.declared.refusal.Detail.TheVariants as detail
use Rattle.pgq_base.specs.declared.refusal.Refusal.{Refusal}
use Rattle.sql_lexer.specs.declared.token.Token.{Token}
use Rattle.graph_ast.specs.declared.query.QueryTree.{QueryTree}
use Rattle.token_grammar.specs.Rules.{on}
use Rattle.token_grammar.specs.Parser.{Answer, inner, finish, parser}
use Rattle.token_grammar.specs.Parser.Answer.{got, fault}
use Rattle.token_grammar.specs.Texts.{FirstFault}
use Rattle.token_grammar.specs.declared.fault.Cause.{Cause}
use Rattle.token_grammar.proofs.Whole as whole
use Rattle.token_grammar.proofs.Firsts.{one_fault, no_fault}
use Rattle.token_reading.specs.Tokens.{class, class_count}
use Rattle.pattern_parser.specs.Queries.{query, inside, query_text}
use Rattle.pattern_parser.specs.Reading.{reads, at_depth}
use Rattle.pattern_parser.specs.Outcomes.{SpellsQuery, IsShallow, IsFirstFault, IsOutcome, opens, closes, span_at, code_for}
use Rattle.token_reading.proofs.RefusalLemmas.{at_place, made, same_refusal}
use Rattle.token_reading.proofs.Samples.{below, sample, sampled}
use Rattle.pattern_parser.proofs.Sure.{sure, decided, sums, counted_all, has}

module _ (ts us : List Token) (same : us ≡ ts) where
  moved : (a : Answer Token QueryTree) → finish (reads (at_depth 64) query us) ≡ a → finish (parser class (inner class inside 64) query ts) ≡ a
  moved a h = ap (λ l. finish (parser class (inner class inside 64) query l)) (sym same) ∙ h

  pub ok : (tree : QueryTree) (left : List Token) → finish (reads (at_depth 64) query us) ≡ got tree left → SpellsQuery ts tree
  ok tree left h = (64, whole.sound class class_count below sample sampled inside decided 3 has opens closes counted_all query sure sums 64 ts tree left (moved (got tree left) h))

  pub shallow : (tree : QueryTree) (left : List Token) → finish (reads (at_depth 64) query us) ≡ got tree left → IsShallow ts
  shallow tree left h = whole.low class class_count below sample sampled inside decided 3 has opens closes counted_all query sure sums 64 ts tree left (moved (got tree left) h)

  pub complete_ok : (tree : QueryTree) (left : List Token) → finish (reads (at_depth 64) query us) ≡ got tree left → (other : QueryTree) → SpellsQuery ts other → tree ≡ other
  complete_ok tree left h other s = whole.complete_got class class_count below sample sampled inside decided 3 has opens closes counted_all query sure sums 64 ts tree left
      (moved (got tree left) h) s.0 other s.1

  pub complete_fault : (c : Cause) (left : List Token) → finish (reads (at_depth 64) query us) ≡ fault c left → (other : QueryTree) → SpellsQuery ts other → IsShallow ts → ⊥
  complete_fault c left h other s l = whole.complete_fault class class_count below sample sampled inside decided 3 has opens closes counted_all query sure sums 64 ts c left
      (moved (fault c left) h) l s.0 other s.1

  pub left_short : (c : Cause) (left : List Token) → finish (reads (at_depth 64) query us) ≡ fault c left → length left ≤ length ts
  left_short c left h = whole.left_short class class_count below sample sampled inside decided 3 has opens closes counted_all query sure sums 64 ts c left (moved (fault c left) h)

  pub first : (c : Cause) (left : List Token) (at : ℕ) → finish (reads (at_depth 64) query us) ≡ fault c left → at + length left ≡ length ts →
      FirstFault (on class opens) (on class closes) query_text 64 ts c (drop at ts)
  first c left at h l = whole.fault_at class class_count below sample sampled inside decided 3 has opens closes counted_all query sure sums 64 ts c left at
      (moved (fault c left) h) l

pub one_tree : (ts : List Token) (a b : QueryTree) → SpellsQuery ts a → SpellsQuery ts b → a ≡ b
one_tree ts a b s t = whole.one_value class class_count below sample sampled inside decided 3 has opens closes counted_all query sure sums ts a b s t

-- ---- one outcome

first_same : (ts : List Token) (end : ℕ) (a b : Refusal) → IsFirstFault ts end a → IsFirstFault ts end b → a ≡ b
first_same ts end a b f g =
    let q = one_fault (on class opens) (on class closes) query_text 64 ts f.cause g.cause (drop f.place ts) (drop g.place ts) f.first g.first in
    let place : span_at end (slice_get ts f.place) ≡ span_at end (slice_get ts g.place) = at_place end f.place ts ∙ ap (λ l. span_at end (slice_get l 0)) q.1
    ∙ sym (at_place end g.place ts) in
    same_refusal a b (f.role ∙ sym g.role) (f.span ∙ place ∙ sym g.span) (f.code ∙ ap code_for q.0 ∙ sym g.code) (f.detail ∙ sym g.detail)

pub one_outcome : (ts : List Token) (end : ℕ) (a b : Result QueryTree Refusal) → IsOutcome ts end a → IsOutcome ts end b → a ≡ b
one_outcome ts end (Ok t) (Ok u) f g = ap Ok (one_tree ts t u f.0 g.0)
one_outcome ts end (Ok t) (Err r) f g = absurd (no_fault (on class opens) (on class closes) query_text 64 ts t f.0 f.1 g.cause (drop g.place ts) g.first)
one_outcome ts end (Err r) (Ok t) f g = absurd (no_fault (on class opens) (on class closes) query_text 64 ts t g.0 g.1 f.cause (drop f.place ts) f.first)
one_outcome ts end (Err r) (Err s) f g = ap Err (first_same ts end r s f g)

pub some_outcome : (ts : List Token) (end : ℕ) → (due : Result QueryTree Refusal) × IsOutcome ts end due
some_outcome ts end = by_answer (finish (reads (at_depth 64) query ts)) refl where
  by_answer : (a : Answer Token QueryTree) → finish (reads (at_depth 64) query ts) ≡ a → (due : Result QueryTree Refusal) × IsOutcome ts end due
  by_answer (got tree left) h = (Ok tree, (ok ts ts refl tree left h, shallow ts ts refl tree left h))
  by_answer (fault c left) h =
      let place = length ts - length left in
      let short : length left ≤ length ts = left_short ts ts refl c left h in (
        Err (made Query (span_at end (slice_get ts place)) (code_for c) detail.Nothing),
        record {
          role = refl;
          detail = refl;
          cause = c;
          code = refl;
          place = place;
          first = first ts ts refl c left place h (omega (arith, short));
          span = refl;
        },
      )
