-- The steps of a run, where the files are told.
use Rattle.std.specs.Prelude.{◌≡◌, ℕ, ◌≤◌, List, ⊤, Option, None, Some, Result, Ok, Err, IsErrOf}
use Rattle.pgq_base.specs.Causes.{Rose}
use Rattle.pgq_base.specs.Files.{content_of}
use Rattle.pgq_base.specs.declared.refusal.Role.{Role}
use Rattle.pgq_base.specs.declared.refusal.Role.TheVariants.{Schema, Query, Sql}
use Rattle.pgq_base.specs.declared.refusal.Refusal.{Refusal}
use Rattle.pgq_base.specs.declared.refusal.Stop.{Stop}
use Rattle.pgq_base.specs.declared.refusal.Stop.TheVariants as s
use Rattle.graph_ast.specs.declared.catalog.Catalog.{Catalog}
use Rattle.graph_ast.specs.declared.checked.CheckedQuery.{CheckedQuery}
use Rattle.pgq_base.specs.Instances.{TableRows, InstanceRows}
use Rattle.sql_algebra.specs.declared.tree.SqlQuery.{SqlQuery}
use Rattle.sql_algebra.specs.Meaning.{names_of}
use Rattle.table_words.specs.declared.word.TableWord.{TableWord}
use Rattle.table_files.specs.TablePlaces.{table_places}
use Rattle.table_loads.specs.Loads.{instance_at}
use Rattle.graph_meaning.specs.Answers.{names}
use Rattle.sample_run.specs.SampleCatalog.{sample_catalog}
use Rattle.sample_run.specs.SampleRun.{sample_query, sample_rows}
use Rattle.pgq_program.specs.declared.halt.Halt.{Halt}
use Rattle.pgq_program.specs.declared.halt.Halt.TheVariants as h
use Rattle.pgq_program.specs.Commands.{Asked}
use Rattle.pgq_program.specs.Chains.{Then, Only}
use Rattle.pgq_program.specs.Halts.{halting, tables_halting, places_or}
use Rattle.pgq_program.specs.Outcomes.{Outcome, IsTextOf}
use Rattle.pgq_program.specs.Queries.{IsQueryRead}
use Rattle.pgq_program.specs.Rows.{IsSqlRead, rows_due}
use Rattle.pgq_program.specs.Running.{answer_due, summary_of}
use Rattle.pgq_program.specs.Schemas.{IsRead}
use Rattle.pgq_program.specs.Texts.{next, sized}

-- a stop of a call halts the run
abbrev pub halt_of : Stop Refusal → Halt
halt_of (s.Refused refusal) = h.Refused refusal
halt_of s.NoMemory = h.NoMemory

-- an absent file is a fault
abbrev pub held_text : Role → Option (List ℕ) → Result (List ℕ) Halt
held_text role None = Err h.ReadFault
held_text role (Some text) = halting (sized role text)

-- reading a file, up to its size
abbrev pub text_at : Role → List ℕ → List (List ℕ × List ℕ) → Result (List ℕ) Halt
text_at role name files = held_text role (content_of name files)

-- what is due a step that reads no file
abbrev pub Halted : {A : Type 0} → (Result A Refusal → Type 0) → Result A Halt → Type 0
Halted due (Ok x) = due (Ok x)
Halted due (Err (h.Refused refusal)) = due (Err refusal)
Halted due (Err h.Usage) = ⊥
Halted due (Err h.ReadFault) = ⊥
Halted due (Err h.NoMemory) = ⊥

-- the schema file is read, and then looked at
abbrev pub IsCatalogAt : List ℕ → List (List ℕ × List ℕ) → Result Catalog Halt → Type 0
IsCatalogAt name files answer = Then (Only (text_at Schema name files)) (λ text. Halted (IsRead text)) answer

-- the query file is read, and then looked at in the catalog
abbrev pub IsQueryAt : Catalog → List ℕ → List (List ℕ × List ℕ) → Result CheckedQuery Halt → Type 0
IsQueryAt catalog name files answer = Then (Only (text_at Query name files)) (λ text. Halted (IsQueryRead catalog text)) answer

-- the schema file first, and then the query file
abbrev pub IsCheckedAt : List ℕ → List ℕ → List (List ℕ × List ℕ) → Result CheckedQuery Halt → Type 0
IsCheckedAt schema query files answer = Then (IsCatalogAt schema files) (λ catalog. IsQueryAt catalog query files) answer

-- the query file of a translation, in the catalog of the schema file
abbrev pub IsTranslationIn : Catalog → List ℕ → List (List ℕ × List ℕ) → Result Outcome Halt → Type 0
IsTranslationIn catalog query files answer = Then (IsQueryAt catalog query files) (λ checked. Only (Ok (Outcome.Translation catalog checked))) answer

-- the schema file first, and then the query file
abbrev pub IsTranslationOf : List ℕ → List ℕ → List (List ℕ × List ℕ) → Result Outcome Halt → Type 0
IsTranslationOf schema query files answer = Then (IsCatalogAt schema files) (λ catalog. IsTranslationIn catalog query files) answer

-- the SQL file is read, and then looked at in the catalog
abbrev pub IsSqlAt : Catalog → List ℕ → List (List ℕ × List ℕ) → Result SqlQuery Halt → Type 0
IsSqlAt catalog name files answer = Then (Only (text_at Sql name files)) (λ text. Halted (IsSqlRead catalog text)) answer

-- the rows of a query over the tables of some files
abbrev pub rows_at : Catalog → SqlQuery → List TableWord → List ℕ → List (List ℕ × List ℕ) → Result TableRows Halt
rows_at catalog query words places files = next (tables_halting (instance_at catalog files words places)) (λ instance. halting (rows_due Sql catalog query instance))

-- the SQL file, and then the tables' files
abbrev pub IsTableAt : Catalog → List TableWord → List ℕ → List ℕ → List (List ℕ × List ℕ) → Result Outcome Halt → Type 0
IsTableAt catalog words places sql files answer =
    Then (IsSqlAt catalog sql files) (λ query. Then (Only (rows_at catalog query words places files)) (λ rows. Only (Ok (Outcome.Table (names_of query) rows)))) answer

-- the schema file, the names of the tables, the SQL file, and the tables' files
abbrev pub IsTableOf : List ℕ → List ℕ → List TableWord → List (List ℕ × List ℕ) → Result Outcome Halt → Type 0
IsTableOf schema sql words files answer =
    Then (IsCatalogAt schema files) (λ catalog. Then (Only (places_or (table_places catalog words))) (λ places. IsTableAt catalog words places sql files)) answer

-- the answer of a query over the view of the tables of some files
abbrev pub answer_at : Catalog → CheckedQuery → List TableWord → List ℕ → List (List ℕ × List ℕ) → Result TableRows Halt
answer_at catalog query words places files = next (tables_halting (instance_at catalog files words places)) (λ instance. halting (answer_due catalog query instance))

-- the query file, and then the tables' files
abbrev pub IsAnswerAt : Catalog → List TableWord → List ℕ → List ℕ → List (List ℕ × List ℕ) → Result Outcome Halt → Type 0
IsAnswerAt catalog words places name files answer =
    Then (IsQueryAt catalog name files) (λ query. Then (Only (answer_at catalog query words places files)) (λ rows. Only (Ok (Outcome.Table (names query) rows)))) answer

-- the schema file, the names of the tables, the query file, and the tables' files
abbrev pub IsAnswerOf : List ℕ → List ℕ → List TableWord → List (List ℕ × List ℕ) → Result Outcome Halt → Type 0
IsAnswerOf schema query words files answer =
    Then (IsCatalogAt schema files) (λ catalog. Then (Only (places_or (table_places catalog words))) (λ places. IsAnswerAt catalog words places query files)) answer

-- the query of the generated run, and then its answer over the tables with n persons; no file is read
abbrev pub IsSampled : ℕ → Result Outcome Halt → Type 0
IsSampled n answer =
    Then (Halted (IsQueryRead sample_catalog sample_query)) (λ query. Then (Only (halting (answer_due sample_catalog query (sample_rows n))))
    (λ rows. Only (Ok (summary_of n rows)))) answer

-- what the words are due
abbrev pub Owes : Option Asked → List (List ℕ × List ℕ) → Result Outcome Halt → Type 0
Owes None files answer = answer ≡ Err h.Usage
Owes (Some (Asked.OfTranslate schema query)) files answer = IsTranslationOf schema query files answer
Owes (Some (Asked.OfCheck schema)) files answer = Then (IsCatalogAt schema files) (λ catalog. Only (Ok Outcome.Sound)) answer
Owes (Some (Asked.OfCheckQuery schema query)) files answer = Then (IsCheckedAt schema query files) (λ checked. Only (Ok (Outcome.Weighed checked.weight))) answer
Owes (Some (Asked.OfRun schema query tables)) files answer = IsAnswerOf schema query tables files answer
Owes (Some (Asked.OfSample count)) files answer = IsSampled count answer
Owes (Some (Asked.OfEval schema sql tables)) files answer = IsTableOf schema sql tables files answer

-- this answer is due, or it is want of memory or a fault, which have their own clauses
abbrev pub StepGives : {A : Type 0} → (Result A Halt → Type 0) → Result A Halt → Type 0
StepGives due (Ok x) = due (Ok x)
StepGives due (Err (h.Refused refusal)) = due (Err (h.Refused refusal))
StepGives due (Err h.Usage) = due (Err h.Usage)
StepGives due (Err h.ReadFault) = ⊤
StepGives due (Err h.NoMemory) = ⊤

-- this text is one of the outcome that is due, or this halt is due
abbrev pub StepWrites : (Result Outcome Halt → Type 0) → Result (List ℕ) Halt → Type 0
StepWrites due (Ok text) = (outcome : Outcome) × due (Ok outcome) × IsTextOf outcome text
StepWrites due (Err (h.Refused refusal)) = due (Err (h.Refused refusal))
StepWrites due (Err h.Usage) = due (Err h.Usage)
StepWrites due (Err h.ReadFault) = ⊤
StepWrites due (Err h.NoMemory) = ⊤

-- a read fault comes only where the count rose, or stands at its last value, and but for want of memory nothing else does
pub record HaltCause {A : Type 0} (before now : ℕ) (result : Result A Halt) : Type 0 where
  pub later : before ≤ now
  pub read : IsErrOf result h.ReadFault → Rose before now
  pub kept : (IsErrOf result h.ReadFault → ⊥) → (IsErrOf result h.NoMemory → ⊥) → now ≡ before
