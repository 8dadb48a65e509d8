-- What is answered of the tree that the tokens of a query text spell is what the text is due.
use Rattle.std.proofs.Common.{◌≡◌, refl, subst, ◌≤◌, ◌++◌, ℕ, List, length, codes, decimal, inl, inr, Bool, true, false, cond, Option, None, Some, IfSome, Result, Ok, Err}
use Rattle.pgq_base.specs.Answers.{Gives}
use Rattle.pgq_base.specs.declared.refusal.Refusal.{Refusal}
use Rattle.pgq_base.specs.declared.refusal.Stop.{Stop}
use Rattle.pgq_base.specs.declared.refusal.Stop.TheVariants.{Refused, NoMemory}
use Rattle.pgq_base.specs.declared.refusal.Role.TheVariants.{Query}
use Rattle.sql_lexer.specs.declared.token.Token.{Token}
use Rattle.sql_lexer.specs.Texts.{AreTokens, most_tokens}
use Rattle.graph_ast.specs.declared.query.QueryTree.{QueryTree}
use Rattle.graph_ast.specs.declared.catalog.Catalog.{Catalog}
use Rattle.graph_ast.specs.declared.checked.CheckedQuery.{CheckedQuery}
use Rattle.pattern_parser.specs.Outcomes.{SpellsQuery, IsShallow}
use Rattle.pattern_check.specs.Served.{is_served}
use Rattle.pattern_check.specs.Checks.{due}
use Rattle.pgq_program.specs.declared.halt.Halt.{Halt}
use Rattle.pgq_program.specs.declared.halt.Halt.TheVariants as h
use Rattle.pgq_program.specs.Chains.{Only}
use Rattle.pgq_program.specs.Commands.{Asked}
use Rattle.pgq_program.specs.Outcomes.{Outcome}
use Rattle.pgq_program.specs.Queries.{not_served, served, IsJudged, IsQueryRead}
use Rattle.pgq_program.specs.Steps.{StepGives, StepWrites, Owes, Halted, IsCatalogAt, IsQueryAt, IsCheckedAt, text_at}
use Rattle.pgq_program.specs.Texts.{GivesDue}

module _ (catalog : Catalog) (tree : QueryTree) where
  served_is : (b : Bool) → is_served tree ≡ b → served tree ≡ cond b (let t : Result QueryTree Refusal = Ok tree in t) (Err not_served)
  served_is b e = subst (λ b. served tree ≡ cond b (let t : Result QueryTree Refusal = Ok tree in t) (Err not_served)) e refl

  pub judged : is_served tree ≡ true → (r : Result CheckedQuery (Stop Refusal)) → Gives (due catalog tree) r → GivesDue (IsJudged catalog tree) r
  judged e (Ok query) g = (tree, served_is true e, g)
  judged e (Err (Refused refusal)) g = inr (tree, served_is true e, g)
  judged e (Err NoMemory) g = tt

  pub refused : is_served tree ≡ false → IsJudged catalog tree (Err not_served)
  refused e = inl (served_is false e)

pub at_rules : (catalog : Catalog) (text : List ℕ) (tokens : List Token) (tree : QueryTree) (r : Result CheckedQuery (Stop Refusal)) → AreTokens text tokens
    → length tokens ≤ most_tokens
    → (seen : List Token) → seen ≡ tokens → SpellsQuery seen tree → IsShallow seen → GivesDue (IsJudged catalog tree) r → GivesDue (IsQueryRead catalog text) r
at_rules catalog text tokens tree r a few seen same s shallow e = by r e (subst (λ l. SpellsQuery l tree) same s) (subst IsShallow same shallow)
  where
    by : (r : Result CheckedQuery (Stop Refusal)) → GivesDue (IsJudged catalog tree) r → SpellsQuery tokens tree → IsShallow tokens → GivesDue (IsQueryRead catalog text) r
    by (Ok query) e s shallow = (tokens, (a, few), (tree, (s, shallow), e))
    by (Err (Refused refusal)) e s shallow = inr (tokens, (a, few), inr (tree, (s, shallow), e))
    by (Err NoMemory) e s shallow = tt

-- what the text of a file is due is what the file is due
pub in_file : (catalog : Catalog) (name text : List ℕ) (files : Option (List (List ℕ × List ℕ))) (r : Result CheckedQuery Halt)
    → IfSome files (λ told. StepGives (Only (text_at Query name told)) (Ok text))
    → (seen : List ℕ) → seen ≡ text → StepGives (Halted (IsQueryRead catalog seen)) r → IfSome files (λ told. StepGives (IsQueryAt catalog name told) r)
in_file catalog name text None r e seen same k = tt
in_file catalog name text (Some told) r e seen same k = by r (subst (λ t. StepGives (Halted (IsQueryRead catalog t)) r) same k)
  where
    by : (r : Result CheckedQuery Halt) → StepGives (Halted (IsQueryRead catalog text)) r → StepGives (IsQueryAt catalog name told) r
    by (Ok query) k = (text, e, k)
    by (Err (h.Refused refusal)) k = inr (text, e, k)
    by (Err h.Usage) k = absurd k
    by (Err h.ReadFault) k = tt
    by (Err h.NoMemory) k = tt

-- the schema's catalog, and then the query in it
pub in_files : (schema query : List ℕ) (catalog : Catalog) (files : Option (List (List ℕ × List ℕ))) (r : Result CheckedQuery Halt)
    → IfSome files (λ told. StepGives (IsCatalogAt schema told) (Ok catalog)) → (r ≡ Err h.Usage → ⊥)
    → IfSome files (λ told. StepGives (IsQueryAt catalog query told) r) → IfSome files (λ told. StepGives (IsCheckedAt schema query told) r)
in_files schema query catalog None r e never k = tt
in_files schema query catalog (Some told) r e never k = by r never k
  where
    by : (r : Result CheckedQuery Halt) → (r ≡ Err h.Usage → ⊥) → StepGives (IsQueryAt catalog query told) r → StepGives (IsCheckedAt schema query told) r
    by (Ok checked) never k = (catalog, e, k)
    by (Err (h.Refused refusal)) never k = inr (catalog, e, k)
    by (Err h.Usage) never k = absurd (never refl)
    by (Err h.ReadFault) never k = tt
    by (Err h.NoMemory) never k = tt

-- the line with the weight of the query
pub line_told : (schema query : List ℕ) (files : Option (List (List ℕ × List ℕ))) (checked : CheckedQuery) (text : List ℕ)
    → IfSome files (λ told. StepGives (IsCheckedAt schema query told) (Ok checked)) → text ≡ codes "ok, weight " ++ decimal checked.weight ++ codes "\n"
    → IfSome files (λ told. StepWrites (Owes (Some (Asked.OfCheckQuery schema query)) told) (Ok text))
line_told schema query None checked text e is = tt
line_told schema query (Some told) checked text e is = (Outcome.Weighed checked.weight, (checked, e, refl), is)
