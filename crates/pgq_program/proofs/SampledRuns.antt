-- What is told of the generated run is what `sample` is due.
use Rattle.std.proofs.Common.{◌≡◌, refl, sym, subst, ap₂, ◌∙◌, ℕ, ◌*◌, ◌≤◌, List, length, map, inl, inr, Option, None, Some, IfSome, Result, Ok, Err, arith}
use Rattle.std.specs.Prelude.{IsErrOf}
use Rattle.std.proofs.lemmas.List.{length-map}
use Rattle.std.proofs.lemmas.List.Sorted.{length_permutation}
use Rattle.pgq_base.specs.declared.rows.Rows.{Rows}
use Rattle.pgq_base.specs.Instances.{same_values}
use Rattle.csv_tables.specs.Outcomes.{values_of, rows_of}
use Rattle.graph_ast.specs.declared.checked.CheckedQuery.{CheckedQuery}
use Rattle.graph_meaning.specs.Lists.{distinct}
use Rattle.sample_run.specs.SampleCatalog.{sample_catalog}
use Rattle.sample_run.specs.SampleRun.{sample_query, sample_rows, sample_summary}
use Rattle.pgq_program.specs.declared.halt.Halt.{Halt}
use Rattle.pgq_program.specs.declared.halt.Halt.TheVariants as h
use Rattle.pgq_program.specs.Halts.{halting}
use Rattle.pgq_program.specs.Queries.{IsQueryRead}
use Rattle.pgq_program.specs.Running.{answer_due, summary_of, GivesRows}
use Rattle.pgq_program.specs.Commands.{Asked}
use Rattle.pgq_program.specs.Steps.{StepWrites, Halted, IsSampled, Owes, HaltCause}
use Rattle.pgq_program.proofs.SameRows.{as_many_different}

pub query_is_short : length sample_query ≤ 1048576
unfolding sample_query
query_is_short = omega arith

module _ (n : ℕ) (query : CheckedQuery) (read : Halted (IsQueryRead sample_catalog sample_query) (Ok query)) where
  pub summarised : (rows : Rows) (text : List ℕ) → GivesRows (halting (answer_due sample_catalog query (sample_rows n))) (Ok rows)
      → text ≡ sample_summary n (3 * n) (length rows.rows) (length (distinct same_values (map values_of rows.rows))) → StepWrites (IsSampled n) (Ok text)
  summarised rows text (answer, due, same) is = (
    summary_of n answer,
    (query, read, (answer, due, refl)),
    is ∙ ap₂ (sample_summary n (3 * n)) (sym (length-map rows.rows values_of) ∙ length_permutation answer (rows_of rows) same) (as_many_different answer (rows_of rows) same),
  )

  pub refused_rows : (halt : Halt) → GivesRows (halting (answer_due sample_catalog query (sample_rows n))) (Err halt) → StepWrites (IsSampled n) (Err halt)
  refused_rows (h.Refused refusal) due = inr (query, read, inl due)
  refused_rows h.Usage due = absurd due
  refused_rows h.ReadFault due = absurd due
  refused_rows h.NoMemory due = tt

-- no file is read, so it is due whatever the files are, and no count rises
pub told_if : (asked : Option Asked) (n : ℕ) (files : Option (List (List ℕ × List ℕ))) (r : Result (List ℕ) Halt) → Some (Asked.OfSample n) ≡ asked → StepWrites (IsSampled n) r
    → IfSome files (λ told. StepWrites (Owes asked told) r)
told_if asked n None r same due = tt
told_if asked n (Some told) r same due = subst (λ a. StepWrites (Owes a told) r) same due

pub still : {A : Type 0} (n : ℕ) (r : Result A Halt) → (IsErrOf r h.ReadFault → ⊥) → HaltCause n n r
still n r calm = record { later = omega arith; read = λ fault. absurd (calm fault); kept = λ read memory. refl }
