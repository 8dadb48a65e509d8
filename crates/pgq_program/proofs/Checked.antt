-- What the rules answer of the tree that the tokens of a text spell is what the text is due.
use Rattle.std.proofs.Common.{◌≡◌, subst, ◌≤◌, ℕ, List, length, inr, Option, None, Some, IfSome, Result, Ok, Err}
use Rattle.pgq_base.specs.Answers.{Gives}
use Rattle.pgq_base.specs.declared.refusal.Refusal.{Refusal}
use Rattle.pgq_base.specs.declared.refusal.Stop.{Stop}
use Rattle.pgq_base.specs.declared.refusal.Stop.TheVariants.{Refused, NoMemory}
use Rattle.sql_lexer.specs.declared.token.Token.{Token}
use Rattle.sql_lexer.specs.Texts.{AreTokens, most_tokens}
use Rattle.graph_ast.specs.declared.schema.SchemaTree.{SchemaTree}
use Rattle.graph_ast.specs.declared.catalog.Catalog.{Catalog}
use Rattle.schema_parser.specs.Outcomes.{SpellsSchema, IsShallow}
use Rattle.view_check.specs.Checks.{due}
use Rattle.pgq_base.specs.declared.refusal.Role.TheVariants.{Schema}
use Rattle.pgq_program.specs.declared.halt.Halt.{Halt}
use Rattle.pgq_program.specs.declared.halt.Halt.TheVariants as h
use Rattle.pgq_program.specs.Chains.{Only}
use Rattle.pgq_program.specs.Schemas.{IsRead}
use Rattle.pgq_program.specs.Steps.{StepGives, Halted, IsCatalogAt, text_at}
use Rattle.pgq_program.specs.Texts.{GivesDue}

pub at_rules : (text : List ℕ) (tokens : List Token) (tree : SchemaTree) (r : Result Catalog (Stop Refusal)) → AreTokens text tokens → length tokens ≤ most_tokens
    → (seen : List Token) → seen ≡ tokens → SpellsSchema seen tree → IsShallow seen → Gives (due tree) r → GivesDue (IsRead text) r
at_rules text tokens tree r a few seen same s shallow e = by r e (subst (λ l. SpellsSchema l tree) same s) (subst IsShallow same shallow)
  where
    by : (r : Result Catalog (Stop Refusal)) → Gives (due tree) r → SpellsSchema tokens tree → IsShallow tokens → GivesDue (IsRead text) r
    by (Ok catalog) e s shallow = (tokens, (a, few), (tree, (s, shallow), e))
    by (Err (Refused refusal)) e s shallow = inr (tokens, (a, few), inr (tree, (s, shallow), e))
    by (Err NoMemory) e s shallow = tt

-- what the text of a file is due is what the file is due
pub in_file : (name text : List ℕ) (files : Option (List (List ℕ × List ℕ))) (r : Result Catalog Halt)
    → IfSome files (λ told. StepGives (Only (text_at Schema name told)) (Ok text))
    → (seen : List ℕ) → seen ≡ text → StepGives (Halted (IsRead seen)) r → IfSome files (λ told. StepGives (IsCatalogAt name told) r)
in_file name text None r e seen same k = tt
in_file name text (Some told) r e seen same k = by r (subst (λ t. StepGives (Halted (IsRead t)) r) same k)
  where
    by : (r : Result Catalog Halt) → StepGives (Halted (IsRead text)) r → StepGives (IsCatalogAt name told) r
    by (Ok catalog) k = (text, e, k)
    by (Err (h.Refused refusal)) k = inr (text, e, k)
    by (Err h.Usage) k = absurd k
    by (Err h.ReadFault) k = tt
    by (Err h.NoMemory) k = tt
