-- What a query is due over the tables of some texts: the table text of its answer, or the first fault.
use Rattle.std.specs.Prelude.{ℕ, List, Result, Ok, Err}
use Rattle.pgq_base.specs.Instances.{TableRows}
use Rattle.pgq_base.specs.declared.refusal.Refusal.{Refusal}
use Rattle.pgq_base.specs.declared.refusal.Stop.{Stop}
use Rattle.pgq_base.specs.declared.refusal.Stop.TheVariants as s
use Rattle.csv_tables.specs.Writing.{table_text}
use Rattle.graph_ast.specs.declared.catalog.Catalog.{Catalog}
use Rattle.graph_ast.specs.declared.checked.CheckedQuery.{CheckedQuery}
use Rattle.graph_meaning.specs.Answers.{names}
use Rattle.table_files.specs.TableFiles.{instance_due}
use Rattle.table_files.specs.declared.files.TableText.{TableText}
use Rattle.pgq_program.specs.declared.halt.Halt.{Halt}
use Rattle.pgq_program.specs.declared.halt.Halt.TheVariants as h
use Rattle.pgq_program.specs.Chains.{Then, Only}
use Rattle.pgq_program.specs.Running.{answer_due}
use Rattle.pgq_program.specs.Texts.{next, IsSchemaDue, IsQueryDue}

-- a run that reads no file and no words is halted by a refusal or by want of memory
abbrev pub stopped : Result (List ℕ) Halt → Result (List ℕ) (Stop Refusal)
stopped (Ok text) = Ok text
stopped (Err (h.Refused refusal)) = Err (s.Refused refusal)
stopped (Err h.Usage) = Err s.NoMemory
stopped (Err h.ReadFault) = Err s.NoMemory
stopped (Err h.NoMemory) = Err s.NoMemory

-- the rows of the answer over the instance of the texts
abbrev pub rows_of_texts : Catalog → CheckedQuery → List TableText → Result TableRows Refusal
rows_of_texts catalog query tables = next (instance_due catalog tables) (λ instance. answer_due catalog query instance)

-- and their table text under the names of the query
abbrev pub IsTableDue : Catalog → CheckedQuery → List TableText → Result (List ℕ) Refusal → Type 0
IsTableDue catalog query tables answer = Then (Only (rows_of_texts catalog query tables)) (λ rows. Only (Ok (table_text (names query) rows))) answer

-- the schema text, the query text in its catalog, and the tables
abbrev pub IsRunDue : List ℕ → List ℕ → List TableText → Result (List ℕ) Refusal → Type 0
IsRunDue schema query tables answer =
    Then (IsSchemaDue schema) (λ catalog. Then (IsQueryDue catalog query) (λ checked. IsTableDue catalog checked tables)) answer
