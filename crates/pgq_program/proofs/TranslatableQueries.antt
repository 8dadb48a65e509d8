-- A query text without faults stands for a query that can be written as SQL.
use Rattle.std.proofs.Common.{◌≡◌, refl, subst, ◌∙◌, ℕ, List, Bool, true, false, cond, Option, None, Some, IfOk, Result, Ok, Err}
use Rattle.pgq_base.specs.declared.refusal.Refusal.{Refusal}
use Rattle.pgq_base.specs.declared.refusal.Stop.{Stop}
use Rattle.pgq_base.specs.declared.refusal.Stop.TheVariants.{Refused, NoMemory}
use Rattle.sql_lexer.specs.declared.token.Token.{Token}
use Rattle.sql_lexer.specs.Texts.{AreTokens}
use Rattle.graph_ast.specs.declared.catalog.Catalog.{Catalog}
use Rattle.graph_ast.specs.declared.checked.CheckedQuery.{CheckedQuery}
use Rattle.graph_ast.specs.declared.query.QueryTree.{QueryTree}
use Rattle.graph_ast.specs.Catalogs.{IsValidCatalog}
use Rattle.first_faults.specs.declared.faults.Fault.{Fault}
use Rattle.pattern_parser.specs.Outcomes.{SpellsQuery}
use Rattle.pattern_check.specs.Served.{is_served}
use Rattle.pattern_check.specs.Phases.{first_fault}
use Rattle.pattern_check.specs.Checked.{checked}
use Rattle.pattern_check.specs.Checks.{judged, due}
use Rattle.plain_queries.specs.Plain.{MakesTranslatable}
use Rattle.query_lowering.specs.Translatable.{IsTranslatable}
use Rattle.pgq_program.specs.Queries.{not_served, IsJudged}
use Rattle.pgq_program.specs.Texts.{GivesDue}

module _ (made : MakesTranslatable) (catalog : Catalog) (valid : IsValidCatalog catalog) (text : List ℕ) (tokens : List Token) (tree : QueryTree)
    (are : AreTokens text tokens) (spelled : SpellsQuery tokens tree) where
  of_due : (query : CheckedQuery) → is_served tree ≡ true → due catalog tree ≡ Ok query → IsTranslatable catalog query
  unfolding due
  of_due query served e = by (first_fault catalog tree) refl e
    where
      by : (fault : Option Fault) → first_fault catalog tree ≡ fault → judged fault (checked catalog tree) ≡ Ok query → IsTranslatable catalog query
      by None none e = let same : checked catalog tree ≡ query = cc in subst (IsTranslatable catalog) same (made catalog text tokens tree valid are spelled served none)
      by (Some fault) some e = absurd cc

  of_served : (query : CheckedQuery) (other : QueryTree) (b : Bool) → is_served tree ≡ b → cond b (let t : Result QueryTree Refusal = Ok tree in t) (Err not_served) ≡ Ok other
      → due catalog other ≡ Ok query → IsTranslatable catalog query
  of_served query other true served e d = of_due query served (let same : other ≡ tree = cc in subst (λ t. due catalog t ≡ Ok query) same d)
  of_served query other false served e d = absurd cc

  pub translatable : (r : Result CheckedQuery (Stop Refusal)) → GivesDue (IsJudged catalog tree) r → IfOk r (λ query. IsTranslatable catalog query)
  translatable (Ok query) (other, e, d) = of_served query other (is_served tree) refl e d
  translatable (Err (Refused refusal)) d = tt
  translatable (Err NoMemory) d = tt
