-- What two texts are due: a catalog and a query in it, or the first fault of the two texts. The schema text comes before the query text; of one
-- text its size comes first, then its tokens, its grammar and its rules.
use Rattle.std.specs.Prelude.{ℕ, nat_le, cond, List, length, Result, Ok, Err}
use Rattle.pgq_base.specs.declared.code.Code.TheVariants.{TextTooLarge}
use Rattle.pgq_base.specs.declared.refusal.Role.{Role}
use Rattle.pgq_base.specs.declared.refusal.Role.TheVariants.{Schema, Query}
use Rattle.pgq_base.specs.declared.refusal.Refusal.{Refusal}
use Rattle.pgq_base.specs.declared.refusal.Stop.{Stop}
use Rattle.pgq_base.specs.declared.refusal.Stop.TheVariants as s
use Rattle.sql_lexer.specs.Texts.{refusal}
use Rattle.graph_ast.specs.declared.catalog.Catalog.{Catalog}
use Rattle.graph_ast.specs.declared.checked.CheckedQuery.{CheckedQuery}
use Rattle.pgq_program.specs.Chains.{Then, Only}
use Rattle.pgq_program.specs.Meaning.{Means}
use Rattle.pgq_program.specs.Queries.{IsQueryRead}
use Rattle.pgq_program.specs.Schemas.{IsRead}

-- the next step, where there was no fault
abbrev pub next : {A B E : Type 0} → Result A E → (A → Result B E) → Result B E
next (Ok x) step = step x
next (Err e) step = Err e

-- a text of more than 1,048,576 bytes is refused, before anything else of it is looked at
abbrev pub sized : Role → List ℕ → Result (List ℕ) Refusal
sized role text = cond (nat_le (length text) 1048576) (Ok text) (Err (refusal role TextTooLarge (record { from = 0; to = 0 })))

-- what a schema text of any size is due
abbrev pub IsSchemaDue : List ℕ → Result Catalog Refusal → Type 0
IsSchemaDue schema answer = Then (Only (sized Schema schema)) IsRead answer

-- and a query text in a catalog
abbrev pub IsQueryDue : Catalog → List ℕ → Result CheckedQuery Refusal → Type 0
IsQueryDue catalog query answer = Then (Only (sized Query query)) (IsQueryRead catalog) answer

-- a query text, together with its catalog
abbrev pub IsPairDue : Catalog → List ℕ → Result (Catalog × CheckedQuery) Refusal → Type 0
IsPairDue catalog query answer = Then (IsQueryDue catalog query) (λ checked. Only (Ok (catalog, checked))) answer

-- a schema text, and then a query text in its catalog
abbrev pub IsTextsDue : List ℕ → List ℕ → Result (Catalog × CheckedQuery) Refusal → Type 0
IsTextsDue schema query answer = Then (IsSchemaDue schema) (λ catalog. IsPairDue catalog query) answer

-- the text means the query that the texts are due
pub record MeansDue (due : Result (Catalog × CheckedQuery) Refusal → Type 0) (text : List ℕ) : Type 0 where
  pub catalog : Catalog
  pub query : CheckedQuery
  pub is_due : due (Ok (catalog, query))
  pub means : Means catalog query text

-- a refusal that is due; want of memory may come at any point
abbrev pub IsStopOf : {A : Type 0} → (Result A Refusal → Type 0) → Stop Refusal → Type 0
IsStopOf due (s.Refused refused) = due (Err refused)
IsStopOf due s.NoMemory = Unit {0}

-- the call answers what is due by a relation, unless memory runs out
abbrev pub GivesDue : {A : Type 0} → (Result A Refusal → Type 0) → Result A (Stop Refusal) → Type 0
GivesDue due (Ok x) = due (Ok x)
GivesDue due (Err (s.Refused refusal)) = due (Err refusal)
GivesDue due (Err s.NoMemory) = Unit {0}
