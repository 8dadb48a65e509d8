-- A refusal of a query text names a part of the text.
use Rattle.std.proofs.Common.{◌≡◌, refl, sym, ap, subst, ℕ, List, length, Bool, true, false, cond, inl, inr, Option, None, Some, IfErr, Result, Ok, Err, arith}
use Rattle.pgq_base.specs.declared.refusal.Refusal.{Refusal}
use Rattle.pgq_base.specs.declared.refusal.Role.TheVariants.{Query}
use Rattle.pgq_base.specs.declared.refusal.Stop.{Stop}
use Rattle.pgq_base.specs.declared.refusal.Stop.TheVariants as s
use Rattle.sql_lexer.specs.declared.token.Token.{Token}
use Rattle.sql_lexer.specs.Spans.{LiesIn, RefusalLiesIn}
use Rattle.sql_lexer.specs.Texts.{AreTokens}
use Rattle.sql_lexer.proofs.Uniqueness.{tokens_in, tokens_ordered}
use Rattle.graph_ast.specs.declared.query.QueryTree.{QueryTree}
use Rattle.graph_ast.specs.declared.catalog.Catalog.{Catalog}
use Rattle.graph_ast.specs.declared.checked.CheckedQuery.{CheckedQuery}
use Rattle.first_faults.specs.declared.faults.Fault.{Fault}
use Rattle.pattern_parser.specs.Outcomes.{IsOutcome, SpellsQuery}
use Rattle.token_reading.proofs.RefusalLemmas.{span_in_text}
use Rattle.pattern_parser.proofs.QuerySpans.{spans_lie}
use Rattle.pattern_check.specs.Served.{is_served}
use Rattle.pattern_check.specs.Phases.{first_fault}
use Rattle.pattern_check.specs.Checked.{checked}
use Rattle.pattern_check.specs.Checks.{refusal_of, judged, due}
use Rattle.pattern_check.specs.FaultPlaces.{FaultLiesIn}
use Rattle.pattern_check.proofs.FaultPlaces.{fault_lies}
use Rattle.pgq_program.specs.Queries.{not_served, served, IsJudged, IsQueryRead}
use Rattle.pgq_program.specs.Texts.{GivesDue}
use Rattle.pgq_program.proofs.Placed.{IsPlaced, lexed}

ruled_by : (n : ℕ) (o : Option Fault) (query : CheckedQuery) (r : Refusal) → FaultLiesIn n o → judged o query ≡ Err r → IsPlaced Query n r
ruled_by n None query r lies e = absurd cc
ruled_by n (Some f) query r lies e = let same : refusal_of f ≡ r = cc in subst (IsPlaced Query n) same (refl, lies)

pub Served : QueryTree → Bool → Result QueryTree Refusal
Served tree b = cond b (Ok tree) (Err not_served)

pub served_true : (tree other : QueryTree) (b : Bool) → Served tree b ≡ Ok other → b ≡ true
unfolding Served
served_true tree other true e = refl
served_true tree other false e = absurd cc

pub served_same : (tree other : QueryTree) (b : Bool) → Served tree b ≡ Ok other → tree ≡ other
unfolding Served
served_same tree other true e = cc
served_same tree other false e = absurd cc

not_served_lies : (n : ℕ) (tree : QueryTree) (r : Refusal) (b : Bool) → Served tree b ≡ Err r → IsPlaced Query n r
unfolding Served
not_served_lies n tree r true e = absurd cc
not_served_lies n tree r false e = let same : not_served ≡ r = cc in subst (IsPlaced Query n) same (refl, (omega arith, omega arith))

module _ (catalog : Catalog) (text : List ℕ) where
  parsed : (tokens : List Token) (r : Refusal) → AreTokens text tokens → IsOutcome tokens (length text) (Err r) → IsPlaced Query (length text) r
  parsed tokens r are first = (first.role, subst (LiesIn (length text)) (sym first.span) (span_in_text (length text) first.place tokens (tokens_in text tokens are)))

  ruled : (tokens : List Token) (tree : QueryTree) (r : Refusal) → AreTokens text tokens → SpellsQuery tokens tree → due catalog tree ≡ Err r → IsPlaced Query (length text) r
  unfolding due
  ruled tokens tree r are spelled e =
      ruled_by (length text) (first_fault catalog tree) (checked catalog tree) r
      (fault_lies (length text) catalog tree (spans_lie (length text) tokens tree (tokens_ordered text tokens are) spelled)) e

  judged_lies : (tokens : List Token) (tree : QueryTree) (r : Refusal) → AreTokens text tokens → SpellsQuery tokens tree → IsJudged catalog tree (Err r)
      → IsPlaced Query (length text) r
  unfolding Served
  judged_lies tokens tree r are spelled (inl e) = not_served_lies (length text) tree r (is_served tree) e
  judged_lies tokens tree r are spelled (inr (other, e, fault)) =
      ruled tokens tree r are spelled (subst (λ t. due catalog t ≡ Err r) (sym (served_same tree other (is_served tree) e)) fault)

  pub query_read : (r : Refusal) → IsQueryRead catalog text (Err r) → IsPlaced Query (length text) r
  query_read r (inl fault) = lexed Query text r fault
  query_read r (inr (tokens, are, inl first)) = parsed tokens r are.0 first
  query_read r (inr (tokens, are, inr (tree, spelled, e))) = judged_lies tokens tree r are.0 spelled.0 e

pub refusal_lies : (catalog : Catalog) (text : List ℕ) (r : Result CheckedQuery (Stop Refusal)) → GivesDue (IsQueryRead catalog text) r → IfErr r (RefusalLiesIn (length text))
refusal_lies catalog text (Ok query) due = tt
refusal_lies catalog text (Err (s.Refused refusal)) due = (query_read catalog text refusal due).1
refusal_lies catalog text (Err s.NoMemory) due = tt
