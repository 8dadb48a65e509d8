-- What a query is due over an instance: the rows of its answer, or that there are too many of them. What the generated run says of its rows.
use Rattle.std.specs.Prelude.{◌≡◌, ℕ, ◌*◌, [], length, Result, Ok, Err}
use Rattle.pgq_base.specs.declared.refusal.Refusal.{Refusal}
use Rattle.pgq_base.specs.declared.refusal.Role.TheVariants.{Query}
use Rattle.pgq_base.specs.declared.rows.Rows.{Rows}
use Rattle.pgq_base.specs.Instances.{TableRows, InstanceRows, same_values}
use Rattle.multisets.specs.Bags.{IsSameMultiset}
use Rattle.csv_tables.specs.Outcomes.{rows_of}
use Rattle.graph_ast.specs.declared.catalog.Catalog.{Catalog}
use Rattle.graph_ast.specs.declared.checked.CheckedQuery.{CheckedQuery}
use Rattle.graph_meaning.specs.Answers.{answer}
use Rattle.graph_meaning.specs.Lists.{distinct}
use Rattle.pgq_program.specs.declared.halt.Halt.{Halt}
use Rattle.pgq_program.specs.declared.halt.Halt.TheVariants as h
use Rattle.pgq_program.specs.Outcomes.{Outcome}
use Rattle.pgq_program.specs.Rows.{few_rows}

-- the answer over the view of the instance
abbrev pub answer_of : Catalog → CheckedQuery → InstanceRows → TableRows
answer_of catalog query instance = answer catalog query [] [] instance

-- an answer with more than 1,000,000 rows is refused as a whole
abbrev pub answer_due : Catalog → CheckedQuery → InstanceRows → Result TableRows Refusal
answer_due catalog query instance = few_rows Query (answer_of catalog query instance)

-- the run with n persons: the persons, three edges for each, the rows of the answer, and the different ones among them
abbrev pub summary_of : ℕ → TableRows → Outcome
summary_of n rows = Outcome.Summary n (3 * n) (length rows) (length (distinct same_values rows))

-- the rows that are due in some order, or this refusal is due, or it is want of memory
abbrev pub GivesRows : Result TableRows Halt → Result Rows Halt → Type 0
GivesRows due (Ok rows) = (all : TableRows) × (due ≡ Ok all) × IsSameMultiset all (rows_of rows)
GivesRows due (Err (h.Refused refusal)) = due ≡ Err (h.Refused refusal)
GivesRows due (Err h.Usage) = ⊥
GivesRows due (Err h.ReadFault) = ⊥
GivesRows due (Err h.NoMemory) = Unit {0}
