-- A refusal of a schema text names a part of the text.
use Rattle.std.proofs.Common.{◌≡◌, refl, sym, ap, subst, ℕ, List, length, inl, inr, Option, None, Some, IfErr, Result, Ok, Err}
use Rattle.pgq_base.specs.declared.refusal.Refusal.{Refusal}
use Rattle.pgq_base.specs.declared.refusal.Role.{Role}
use Rattle.pgq_base.specs.declared.refusal.Role.TheVariants.{Schema}
use Rattle.pgq_base.specs.declared.refusal.Stop.{Stop}
use Rattle.pgq_base.specs.declared.refusal.Stop.TheVariants as s
use Rattle.sql_lexer.specs.declared.token.Token.{Token}
use Rattle.sql_lexer.specs.Spans.{LiesIn, RefusalLiesIn}
use Rattle.sql_lexer.specs.Texts.{AreTokens}
use Rattle.sql_lexer.proofs.Uniqueness.{first_within, tokens_in, tokens_ordered}
use Rattle.graph_ast.specs.declared.schema.SchemaTree.{SchemaTree}
use Rattle.graph_ast.specs.declared.catalog.Catalog.{Catalog}
use Rattle.schema_parser.specs.Outcomes.{IsOutcome, SpellsSchema}
use Rattle.token_reading.proofs.RefusalLemmas.{span_in_text}
use Rattle.schema_parser.proofs.GraphSpans.{spans_lie}
use Rattle.first_faults.specs.declared.faults.Fault.{Fault}
use Rattle.view_check.specs.Phases.{first_fault}
use Rattle.view_check.specs.GraphCatalogs.{catalog_of}
use Rattle.view_check.specs.Checks.{FaultLiesIn, judged, refusal_of, due}
use Rattle.view_check.proofs.SpansInText.{fault_lies}
use Rattle.pgq_program.specs.Schemas.{IsLexed, IsChecked, IsRead}
use Rattle.pgq_program.specs.Texts.{GivesDue}

-- the refusal is of the role, and lies in a text of that length
abbrev pub IsPlaced : Role → ℕ → Refusal → Type 0
IsPlaced role n refusal = (refusal.role ≡ role) × LiesIn n refusal.span

ruled_by : (n : ℕ) (o : Option Fault) (catalog : Catalog) (r : Refusal) → FaultLiesIn n o → judged o catalog ≡ Err r → IsPlaced Schema n r
ruled_by n None catalog r lies e = absurd cc
ruled_by n (Some f) catalog r lies e = let same : refusal_of f ≡ r = cc in subst (IsPlaced Schema n) same (refl, lies)

pub lexed : (role : Role) (text : List ℕ) (r : Refusal) → IsLexed role text (Err r) → IsPlaced role (length text) r
lexed role text r fault = (ap (λ (r : Refusal). r.role) fault.0, first_within text r.code r.span fault.1)

module _ (text : List ℕ) where
  parsed : (tokens : List Token) (r : Refusal) → AreTokens text tokens → IsOutcome tokens (length text) (Err r) → IsPlaced Schema (length text) r
  parsed tokens r are first = (first.role, subst (LiesIn (length text)) (sym first.span) (span_in_text (length text) first.place tokens (tokens_in text tokens are)))

  ruled : (tokens : List Token) (tree : SchemaTree) (r : Refusal) → AreTokens text tokens → SpellsSchema tokens tree → IsChecked tree (Err r) → IsPlaced Schema (length text) r
  unfolding due
  ruled tokens tree r are spelled e =
      ruled_by (length text) (first_fault tree) (catalog_of tree) r (fault_lies (length text) tree (spans_lie (length text) tokens tree (tokens_ordered text tokens are) spelled)) e

  pub read : (r : Refusal) → IsRead text (Err r) → IsPlaced Schema (length text) r
  read r (inl fault) = lexed Schema text r fault
  read r (inr (tokens, are, inl first)) = parsed tokens r are.0 first
  read r (inr (tokens, are, inr (tree, spelled, e))) = ruled tokens tree r are.0 spelled.0 e

pub refusal_lies : (text : List ℕ) (r : Result Catalog (Stop Refusal)) → GivesDue (IsRead text) r → IfErr r (RefusalLiesIn (length text))
refusal_lies text (Ok catalog) due = tt
refusal_lies text (Err (s.Refused refusal)) due = (read text refusal due).1
refusal_lies text (Err s.NoMemory) due = tt
