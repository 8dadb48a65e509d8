-- A refusal of an SQL text names a part of the text.
use Rattle.std.proofs.Common.{◌≡◌, refl, sym, subst, ℕ, List, length, inl, inr, Option, None, Some, IfErr, Result, Ok, Err, arith}
use Rattle.pgq_base.specs.declared.refusal.Refusal.{Refusal}
use Rattle.pgq_base.specs.declared.refusal.Role.{Role}
use Rattle.pgq_base.specs.declared.refusal.Role.TheVariants.{Sql}
use Rattle.pgq_base.specs.declared.refusal.Stop.{Stop}
use Rattle.pgq_base.specs.declared.refusal.Stop.TheVariants as s
use Rattle.sql_lexer.specs.declared.token.Token.{Token}
use Rattle.sql_lexer.specs.Spans.{LiesIn, RefusalLiesIn}
use Rattle.sql_lexer.specs.Texts.{AreTokens}
use Rattle.sql_lexer.proofs.Uniqueness.{tokens_in, tokens_ordered}
use Rattle.token_reading.proofs.RefusalLemmas.{span_in_text}
use Rattle.graph_ast.specs.declared.catalog.Catalog.{Catalog}
use Rattle.first_faults.specs.declared.faults.Fault.{Fault}
use Rattle.sql_algebra.specs.declared.text.SqlText.{SqlText}
use Rattle.sql_algebra.specs.declared.tree.SqlQuery.{SqlQuery}
use Rattle.sql_parser.specs.Outcomes.{IsOutcome, SpellsSql}
use Rattle.sql_parser.specs.Spans.{SpansLieIn}
use Rattle.sql_parser.proofs.SelectSpans.{spans_lie}
use Rattle.sql_reader.specs.Phases.{first_fault}
use Rattle.sql_reader.specs.Queries.{query_of, refused, query_unless, due}
use Rattle.sql_reader.proofs.SoundAnswers.{fault_lies}
use Rattle.pgq_program.specs.Rows.{IsSqlRead, too_many}
use Rattle.pgq_program.specs.Texts.{GivesDue}
use Rattle.pgq_program.proofs.Placed.{IsPlaced, lexed}

-- a query with too many rows is refused at 0-0
pub too_many_lies : (role : Role) (n : ℕ) (r : Refusal) → too_many role ≡ r → IsPlaced role n r
too_many_lies role n r same = subst (IsPlaced role n) same (refl, (omega arith, omega arith))

ruled_by : (n : ℕ) (o : Option Fault) (query : SqlQuery) (r : Refusal) → ((f : Fault) → o ≡ Some f → LiesIn n f.span) → query_unless query o ≡ Err r → IsPlaced Sql n r
ruled_by n None query r lies e = absurd cc
ruled_by n (Some f) query r lies e = let same : refused f ≡ r = cc in subst (IsPlaced Sql n) same (refl, lies f refl)

module _ (catalog : Catalog) (text : List ℕ) where
  parsed : (tokens : List Token) (r : Refusal) → AreTokens text tokens → IsOutcome tokens (length text) (Err r) → IsPlaced Sql (length text) r
  parsed tokens r are first = (first.role, subst (LiesIn (length text)) (sym first.span) (span_in_text (length text) first.place tokens (tokens_in text tokens are)))

  ruled : (tokens : List Token) (tree : SqlText) (r : Refusal) → AreTokens text tokens → SpellsSql tokens tree → due catalog tree ≡ Err r → IsPlaced Sql (length text) r
  unfolding due
  ruled tokens tree r are spelled e =
      ruled_by (length text) (first_fault catalog tree) (query_of catalog tree) r
      (fault_lies catalog tree (length text) (spans_lie (length text) tokens tree (tokens_ordered text tokens are) spelled)) e

  pub sql_read : (r : Refusal) → IsSqlRead catalog text (Err r) → IsPlaced Sql (length text) r
  sql_read r (inl fault) = lexed Sql text r fault
  sql_read r (inr (tokens, are, inl first)) = parsed tokens r are.0 first
  sql_read r (inr (tokens, are, inr (tree, spelled, e))) = ruled tokens tree r are.0 spelled.0 e

pub refusal_lies : (catalog : Catalog) (text : List ℕ) (r : Result SqlQuery (Stop Refusal)) → GivesDue (IsSqlRead catalog text) r → IfErr r (RefusalLiesIn (length text))
refusal_lies catalog text (Ok query) due = tt
refusal_lies catalog text (Err (s.Refused refusal)) due = (sql_read catalog text refusal due).1
refusal_lies catalog text (Err s.NoMemory) due = tt
