-- What is written under Done.
use Rattle.std.specs.Prelude.{◌≡◌, ℕ, List, ◌++◌, Option, codes, decimal}
use Rattle.std.specs.Io.KnownBytes.{Appends}
use Rattle.graph_ast.specs.declared.catalog.Catalog.{Catalog}
use Rattle.graph_ast.specs.declared.checked.CheckedQuery.{CheckedQuery}
use Rattle.pgq_base.specs.Instances.{TableRows}
use Rattle.csv_tables.specs.Writing.{table_text}
use Rattle.sample_run.specs.SampleRun.{sample_summary}
use Rattle.pgq_program.specs.Meaning.{Means}

-- the outcome of a command: a query in a catalog, of which a text that means it is written, that a text is without faults, that a query's is and has a weight, the
-- table of rows under the names of their columns, or how many vertices, edges, rows and different rows the generated run has
pub data Outcome : Type 0 where
  Translation : Catalog → CheckedQuery → Outcome
  Sound : Outcome
  Weighed : ℕ → Outcome
  Table : List (List ℕ) → TableRows → Outcome
  Summary : ℕ → ℕ → ℕ → ℕ → Outcome

-- the texts of an outcome
abbrev pub IsTextOf : Outcome → List ℕ → Type 0
IsTextOf (Outcome.Translation catalog query) text = Means catalog query text
IsTextOf Outcome.Sound text = text ≡ codes "ok\n"
IsTextOf (Outcome.Table names rows) text = text ≡ table_text names rows
IsTextOf (Outcome.Summary vertices edges rows different) text = text ≡ sample_summary vertices edges rows different
IsTextOf (Outcome.Weighed weight) text = text ≡ codes "ok, weight " ++ decimal weight ++ codes "\n"

-- a text of the outcome was written whole
pub record Writes (outcome : Outcome) (old new : Option (List ℕ)) : Type 0 where
  pub text : List ℕ
  pub is_text : IsTextOf outcome text
  pub whole : Appends old new text
