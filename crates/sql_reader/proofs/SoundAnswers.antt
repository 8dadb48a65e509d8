-- What is answered for a text: a sound query, or a refusal that lies in the text.
use Rattle.std.proofs.Common.{◌≡◌, refl, subst, ℕ, Option, Some, None, List, [], ◌∷◌, Result, Ok, Err, IfOk, arith}
use Rattle.pgq_base.specs.Answers.{Gives}
use Rattle.pgq_base.specs.declared.refusal.Refusal.{Refusal}
use Rattle.pgq_base.specs.declared.refusal.Stop.{Stop}
use Rattle.sql_lexer.specs.declared.token.Token.{Token}
use Rattle.sql_lexer.specs.Spans.{LiesIn, TokensLieIn}
use Rattle.sql_lexer.specs.Texts.{AreInOrder}
use Rattle.graph_ast.specs.declared.catalog.Catalog.{Catalog}
use Rattle.condition_grammar.specs.Spans.{first_span}
use Rattle.sql_algebra.specs.declared.text.SqlText.{SqlText}
use Rattle.sql_algebra.specs.declared.tree.SqlQuery.{SqlQuery}
use Rattle.sql_algebra.specs.Meant.{SpellsQuery}
use Rattle.sql_algebra.specs.Soundness.{IsSound}
use Rattle.first_faults.specs.declared.faults.Fault.{Fault}
use Rattle.sql_parser.specs.Outcomes.{SpellsSql}
use Rattle.sql_parser.specs.Spans.{SpansLieIn}
use Rattle.sql_parser.proofs.Placed.{not_before}
use Rattle.sql_reader.specs.Phases.{first_fault}
use Rattle.sql_reader.specs.Queries.{query_of, query_unless, due}
use Rattle.sql_reader.specs.Shapes.{HasShape}
use Rattle.sql_reader.proofs.TellingTexts.{faultless_sound}
use Rattle.sql_reader.proofs.Spelled.{query_spelled}
use Rattle.sql_reader.proofs.FaultSpans.{Found, at_first_fault}

nowhere : (length : ℕ) → LiesIn length (first_span [])
nowhere length = (omega arith, omega arith)

pub in_order_lie : (at end : ℕ) (ts : List Token) → AreInOrder at end ts → TokensLieIn end ts
in_order_lie at end [] h = tt
in_order_lie at end (t ∷ ts) (a, b, c) = ((omega (arith, b), not_before t.span.to end ts c), in_order_lie t.span.to end ts c)

module _ (catalog : Catalog) (text : SqlText) where
  sound_due : HasShape text → (o : Option Fault) → first_fault catalog text ≡ o → (query : SqlQuery) → query_unless (query_of catalog text) o ≡ Ok query → IsSound query catalog
  sound_due shape None is query e = let same : query_of catalog text ≡ query = cc in subst (λ q. IsSound q catalog) same (faultless_sound catalog text shape is)
  sound_due shape (Some f) is query e = absurd cc

  pub judged_sound : HasShape text → (result : Result SqlQuery (Stop Refusal)) → Gives (due catalog text) result → IfOk result (λ query. IsSound query catalog)
  unfolding due
  judged_sound shape (Ok query) e = sound_due shape (first_fault catalog text) refl query e
  judged_sound shape (Err stop) e = tt

  spelled_due : (tokens : List Token) → SpellsSql tokens text → (o : Option Fault) (query : SqlQuery) → query_unless (query_of catalog text) o ≡ Ok query → SpellsQuery tokens query
  spelled_due tokens (n, s) None query e =
      let same : query_of catalog text ≡ query = cc in
      subst (SpellsQuery tokens) same (record { text = text; depth = n; spells = s; told = query_spelled catalog text })
  spelled_due tokens s (Some f) query e = absurd cc

  pub judged_spelled : (tokens : List Token) → SpellsSql tokens text → (result : Result SqlQuery (Stop Refusal)) → Gives (due catalog text) result
      → IfOk result (SpellsQuery tokens)
  unfolding due
  judged_spelled tokens s (Ok query) e = spelled_due tokens s (first_fault catalog text) query e
  judged_spelled tokens s (Err stop) e = tt

  pub fault_lies : (length : ℕ) → SpansLieIn length text → (f : Fault) → first_fault catalog text ≡ Some f → LiesIn length f.span
  fault_lies length h f is = subst (Found (LiesIn length) (nowhere length) catalog) is (at_first_fault (LiesIn length) (nowhere length) catalog text h)
