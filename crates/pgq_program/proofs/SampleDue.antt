-- What the generated run is due: its query text is read without a fault and its answer is small, so it is due a summary and no refusal.
use Rattle.std.proofs.Common.{◌≡◌, refl, sym, ap, ◌∙◌, subst, ℕ, ◌*◌, ◌≤◌, Bool, cond, List, length, Result, Ok, Err, arith}
use Rattle.std.specs.Prelude.{IfOk, IsErrOf, IsOkUnless}
use Rattle.std.proofs.lemmas.Bool.{le-leb}
use Rattle.pgq_base.specs.declared.refusal.Refusal.{Refusal}
use Rattle.pgq_base.specs.declared.refusal.Role.TheVariants.{Query}
use Rattle.pgq_base.specs.declared.rows.Rows.{Rows}
use Rattle.pgq_base.specs.Instances.{TableRows, InstanceRows}
use Rattle.graph_ast.specs.declared.catalog.Catalog.{Catalog}
use Rattle.graph_ast.specs.declared.checked.CheckedQuery.{CheckedQuery}
use Rattle.sample_run.specs.SampleCatalog.{sample_catalog}
use Rattle.sample_run.specs.SampleRun.{sample_query, sample_rows}
use Rattle.sample_bound.specs.SampleQuery.{sample_checked}
use Rattle.sample_bound.proofs.SampleBindings.{answer_is_small}
use Rattle.sample_reading.specs.SampleTree.{sample_tokens, sample_tree}
use Rattle.sample_reading.proofs.Cut.{tokens, few}
use Rattle.sample_reading.proofs.Phrases.{tree_spelled, shallow}
use Rattle.sample_reading.proofs.Faultless as tree
use Rattle.pgq_program.specs.declared.halt.Halt.{Halt}
use Rattle.pgq_program.specs.declared.halt.Halt.TheVariants as h
use Rattle.pgq_program.specs.Halts.{halting}
use Rattle.pgq_program.specs.Outcomes.{Outcome}
use Rattle.pgq_program.specs.Queries.{not_served, served, IsQueryRead}
use Rattle.pgq_program.specs.Rows.{too_many}
use Rattle.pgq_program.specs.Running.{answer_of, answer_due, summary_of, GivesRows}
use Rattle.pgq_program.specs.Steps.{StepGives, Halted, IsSampled}
use Rattle.pgq_program.proofs.OneDue.{ok_inside, ok_not_err, single_query}

-- ---- the query

tree_served : served sample_tree ≡ Ok sample_tree
tree_served = ap (λ (holds : Bool). cond holds (Ok sample_tree) (Err not_served)) tree.served

query_read : IsQueryRead sample_catalog sample_query (Ok sample_checked)
query_read = (sample_tokens, (tokens, few), (sample_tree, (tree_spelled, shallow), (sample_tree, tree_served, tree.due_is)))

no_refusal : (refusal : Refusal) → IsQueryRead sample_catalog sample_query (Err refusal) → ⊥
no_refusal refusal read = ok_not_err sample_checked refusal (single_query sample_catalog sample_query (Ok sample_checked) (Err refusal) query_read read)

-- what is read is the query of the run
pub is_checked : (result : Result CheckedQuery Halt) → StepGives (Halted (IsQueryRead sample_catalog sample_query)) result → IfOk result (λ query. query ≡ sample_checked)
is_checked (Ok query) due = ok_inside query sample_checked (single_query sample_catalog sample_query (Ok query) (Ok sample_checked) due query_read)
is_checked (Err halt) due = tt

-- and it is read, unless memory runs out
pub is_read : (result : Result CheckedQuery Halt) → StepGives (Halted (IsQueryRead sample_catalog sample_query)) result
    → (IsErrOf result h.Usage → ⊥) → (IsErrOf result h.ReadFault → ⊥) → IsOkUnless result h.NoMemory
is_read (Ok query) due never calm = tt
is_read (Err (h.Refused refusal)) due never calm = absurd (no_refusal refusal due)
is_read (Err h.Usage) due never calm = absurd (never refl)
is_read (Err h.ReadFault) due never calm = absurd (calm refl)
is_read (Err h.NoMemory) due never calm = refl

-- ---- its answer

abbrev sample_answer : ℕ → TableRows
sample_answer n = answer_of sample_catalog sample_checked (sample_rows n)

module _ (n : ℕ) (most : n ≤ 2000) where
  few_rows : answer_due sample_catalog sample_checked (sample_rows n) ≡ Ok (sample_answer n)
  few_rows =
      let small : length (sample_answer n) ≤ 12 * n = answer_is_small n in
      ap (λ (holds : Bool). cond holds (Ok (sample_answer n)) (Err (too_many Query))) (le-leb (length (sample_answer n)) 1000000 (omega arith))

  -- there are not too many rows
  pub are_few : (result : Result Rows Halt) → GivesRows (halting (answer_due sample_catalog sample_checked (sample_rows n))) result → IsOkUnless result h.NoMemory
  are_few (Ok rows) due = tt
  are_few (Err (h.Refused refusal)) due = absurd (ok_not_err (sample_answer n) (h.Refused refusal) (sym (ap halting few_rows) ∙ due))
  are_few (Err h.Usage) due = absurd due
  are_few (Err h.ReadFault) due = absurd due
  are_few (Err h.NoMemory) due = refl

  -- the same, where these are the catalog, the query and the tables of the run
  pub are_few_in : (catalog : Catalog) (query : CheckedQuery) (instance : InstanceRows) → catalog ≡ sample_catalog → query ≡ sample_checked → instance ≡ sample_rows n
      → (result : Result Rows Halt) → GivesRows (halting (answer_due catalog query instance)) result → IsOkUnless result h.NoMemory
  are_few_in catalog query instance is of_run made result due =
      let over_tables = subst (λ (i : InstanceRows). GivesRows (halting (answer_due catalog query i)) result) made due in
      let of_query = subst (λ (q : CheckedQuery). GivesRows (halting (answer_due catalog q (sample_rows n))) result) of_run over_tables in
      are_few result (subst (λ (k : Catalog). GivesRows (halting (answer_due k sample_checked (sample_rows n))) result) is of_query)

  pub summary_due : IsSampled n (Ok (summary_of n (sample_answer n)))
  summary_due = (sample_checked, query_read, (sample_answer n, ap halting few_rows, refl))
