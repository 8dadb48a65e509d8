-- What is due of rows is due of the same rows in another order.
use Rattle.std.proofs.Common.{◌≡◌, refl, sym, ap, subst, ◌∙◌, ℕ, ◌≤◌, Bool, true, false, nat_le, cond, List, length, map, Result, Ok, Err}
use Rattle.std.specs.Prelude.{IsErrOf}
use Rattle.std.proofs.lemmas.List.Sorted.{length_permutation, IsPermutation-sym}
use Rattle.multisets.specs.Bags.{IsIn, IsSameMultiset}
use Rattle.multisets.proofs.Kept.{permuted_in}
use Rattle.multisets.proofs.Members.{same_members}
use Rattle.pgq_base.specs.declared.refusal.Refusal.{Refusal}
use Rattle.pgq_base.specs.declared.refusal.Role.{Role}
use Rattle.pgq_base.specs.declared.rows.Rows.{Rows}
use Rattle.pgq_base.specs.Instances.{RowValues, TableRows, same_values}
use Rattle.pgq_base.proofs.ValueOrder.{same_values_decides}
use Rattle.csv_tables.specs.Outcomes.{seen, rows_of}
use Rattle.csv_tables.specs.Writing.{table_text}
use Rattle.graph_meaning.specs.Lists.{distinct}
use Rattle.graph_meaning.proofs.Members.{in_distinct, from_distinct, distinct_once}
use Rattle.pgq_program.specs.declared.halt.Halt.{Halt}
use Rattle.pgq_program.specs.declared.halt.Halt.TheVariants as h
use Rattle.pgq_program.specs.Chains.{Only}
use Rattle.pgq_program.specs.Halts.{halting}
use Rattle.pgq_program.specs.Rows.{too_many, few_rows, WritesTable}
use Rattle.pgq_program.specs.Running.{GivesRows}
use Rattle.pgq_program.specs.Steps.{StepGives}

module _ (role : Role) (xs ys : TableRows) (same : IsSameMultiset xs ys) where
  abbrev by_test : Bool → TableRows → Result TableRows Halt
  by_test few rows = halting (cond few (let r : Result TableRows Refusal = Ok rows in r) (Err (too_many role)))

  as_few : halting (few_rows role xs) ≡ by_test (nat_le (length ys) 1000000) xs
  as_few = ap (λ n. by_test (nat_le n 1000000) xs) (sym (length_permutation xs ys same))

  given : (few : Bool) (rows : TableRows) → by_test few ys ≡ Ok rows → (by_test few xs ≡ Ok xs) × (ys ≡ rows)
  given true rows e = (refl, cc)
  given false rows e = absurd cc

  refused : (few : Bool) (halt : Halt) → by_test few ys ≡ Err halt → by_test few xs ≡ Err halt
  refused true halt e = absurd cc
  refused false halt e = e

  pub gives_rows : (r : Result Rows Halt) → StepGives (Only (halting (few_rows role ys))) (seen rows_of r) → (IsErrOf r h.Usage → ⊥) → (IsErrOf r h.ReadFault → ⊥)
      → GivesRows (halting (few_rows role xs)) r
  gives_rows (Ok rows) e never calm =
      let found = given (nat_le (length ys) 1000000) (rows_of rows) e in
      (xs, as_few ∙ found.0, subst (IsSameMultiset xs) found.1 same)
  gives_rows (Err (h.Refused refusal)) e never calm = as_few ∙ refused (nat_le (length ys) 1000000) (h.Refused refusal) e
  gives_rows (Err h.Usage) e never calm = absurd (never refl)
  gives_rows (Err h.ReadFault) e never calm = absurd (calm refl)
  gives_rows (Err h.NoMemory) e never calm = tt

  pub writes_rows : (names : List (List ℕ)) → table_text names xs ≡ table_text names ys → (r : Result (List ℕ) Halt) → WritesTable names (halting (few_rows role ys)) r
      → WritesTable names (halting (few_rows role xs)) r
  writes_rows names one (Ok text) (rows, due, is) =
      let found = given (nat_le (length ys) 1000000) rows due in
      (xs, as_few ∙ found.0, is ∙ ap (table_text names) (sym found.1) ∙ sym one)
  writes_rows names one (Err (h.Refused refusal)) e = as_few ∙ refused (nat_le (length ys) 1000000) (h.Refused refusal) e
  writes_rows names one (Err h.Usage) e = absurd e
  writes_rows names one (Err h.ReadFault) e = tt
  writes_rows names one (Err h.NoMemory) e = tt

-- so there are as many different ones
pub as_many_different : (xs ys : TableRows) → IsSameMultiset xs ys → length (distinct same_values ys) ≡ length (distinct same_values xs)
as_many_different xs ys same =
    length_permutation (distinct same_values xs) (distinct same_values ys)
    (same_members (distinct same_values xs) (distinct same_values ys) (distinct_once same_values same_values_decides xs) (distinct_once same_values same_values_decides ys)
    (λ x. (
      λ h. in_distinct same_values same_values_decides x ys (permuted_in xs ys same x (from_distinct same_values same_values_decides x xs h)),
      λ h. in_distinct same_values same_values_decides x xs (permuted_in ys xs (IsPermutation-sym xs ys same) x (from_distinct same_values same_values_decides x ys h)),
    )))
