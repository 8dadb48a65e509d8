-- A text that means the query is a text of what `translate` is due.
use Rattle.std.proofs.Common.{◌≡◌, refl, sym, subst, ℕ, List, [], map, inr, Option, None, Some, IfSome, IfOk, Result, Ok, Err}
use Rattle.multisets.specs.Bags.{IsSameMultiset}
use Rattle.pgq_base.specs.Instances.{InstanceRows}
use Rattle.pgq_base.specs.declared.memory.NoMemory.{NoMemory}
use Rattle.graph_ast.specs.declared.catalog.Catalog.{Catalog}
use Rattle.graph_ast.specs.declared.checked.CheckedQuery.{CheckedQuery}
use Rattle.graph_ast.specs.Fits.{Fits}
use Rattle.graph_meaning.specs.Answers as answers
use Rattle.sql_algebra.specs.declared.tree.SqlQuery.{SqlQuery}
use Rattle.sql_algebra.specs.Layout.{layout}
use Rattle.sql_algebra.specs.Meaning.{bag, names_of}
use Rattle.sql_algebra.specs.Meant as meant
use Rattle.pgq_program.specs.declared.halt.Halt.{Halt}
use Rattle.pgq_program.specs.declared.halt.Halt.TheVariants as h
use Rattle.pgq_program.specs.Commands.{Asked}
use Rattle.pgq_program.specs.Meaning.{Means}
use Rattle.pgq_program.specs.Outcomes.{Outcome}
use Rattle.pgq_program.specs.Steps.{Owes, StepGives, StepWrites, IsCatalogAt, IsQueryAt, IsTranslationIn, IsTranslationOf}

-- a text means at most one query
abbrev pub OneMeaning : Type 0
OneMeaning = (text : List ℕ) (catalog : Catalog) (query other : SqlQuery) → meant.Means text query catalog → meant.Means text other catalog → query ≡ other

module _ (catalog : Catalog) (query : CheckedQuery) (sql : SqlQuery) (one : OneMeaning) (names : names_of sql ≡ answers.names query)
    (rows : (instance : InstanceRows) → Fits catalog instance → IsSameMultiset (answers.answer catalog query [] [] instance) (bag catalog sql instance)) where
  text_means : (text : List ℕ) → meant.Means text sql catalog → Means catalog query text
  text_means text means = record { sql = sql; means = means; only = λ other is. one text catalog other sql is means; names = names; rows = rows }

  -- the text of the query's layout
  pub printed : (r : Result (List ℕ) NoMemory) → meant.Means (layout sql) sql catalog → IfOk r (λ text. text ≡ layout sql) → IfOk r (λ text. Means catalog query text)
  printed (Ok text) means is = text_means text (subst (λ text. meant.Means text sql catalog) (sym is) means)
  printed (Err e) means is = tt

-- the query that the query file is due, and its text
pub query_written : (catalog : Catalog) (name : List ℕ) (files : Option (List (List ℕ × List ℕ))) (query : CheckedQuery) (text : List ℕ)
    → IfSome files (λ told. StepGives (IsQueryAt catalog name told) (Ok query)) → Means catalog query text
    → IfSome files (λ told. StepWrites (IsTranslationIn catalog name told) (Ok text))
query_written catalog name None query text e means = tt
query_written catalog name (Some told) query text e means = (Outcome.Translation catalog query, (query, e, refl), means)

-- the catalog of the schema file, and then the rest
pub catalog_written : (catalog : Catalog) (schema query : List ℕ) (files : Option (List (List ℕ × List ℕ))) (r : Result (List ℕ) Halt)
    → IfSome files (λ told. StepGives (IsCatalogAt schema told) (Ok catalog))
    → IfSome files (λ told. StepWrites (IsTranslationIn catalog query told) r) → IfSome files (λ told. StepWrites (Owes (Some (Asked.OfTranslate schema query)) told) r)
catalog_written catalog schema query None r e k = tt
catalog_written catalog schema query (Some told) r e k = by r k
  where
    by : (r : Result (List ℕ) Halt) → StepWrites (IsTranslationIn catalog query told) r → StepWrites (IsTranslationOf schema query told) r
    by (Ok text) (outcome, due, is) = (outcome, (catalog, e, due), is)
    by (Err (h.Refused refusal)) due = inr (catalog, e, due)
    by (Err h.Usage) due = inr (catalog, e, due)
    by (Err h.ReadFault) k = tt
    by (Err h.NoMemory) k = tt
