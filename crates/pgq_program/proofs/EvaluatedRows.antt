-- What an evaluation answers is what the rows of a query are due.
use Rattle.std.proofs.Common.{◌≡◌, refl, sym, ap, subst, ◌∙◌, ℕ, ◌≤◌, ◌<◌, ◌⊎◌, inl, inr, Bool, true, false, nat_le, cond, List, [], ◌∷◌, length, map, Option, None, Some, Result}
use Rattle.std.proofs.Common.{Ok, Err, arith}
use Rattle.std.specs.List.{AllByRecursion, All}
use Rattle.std.proofs.lemmas.Bool.{leb-true, le-leb}
use Rattle.pgq_base.specs.declared.rows.Row.{Row}
use Rattle.pgq_base.specs.declared.rows.Instance.{Instance}
use Rattle.pgq_base.specs.declared.refusal.Role.{Role}
use Rattle.pgq_base.specs.declared.refusal.Refusal.{Refusal}
use Rattle.pgq_base.specs.Instances.{RowValues, TableRows, InstanceRows}
use Rattle.graph_ast.specs.declared.catalog.Catalog.{Catalog}
use Rattle.graph_ast.specs.Catalogs.{IsValidCatalog}
use Rattle.graph_ast.specs.Fits.{Fits}
use Rattle.sql_algebra.specs.declared.tree.SqlQuery.{SqlQuery}
use Rattle.sql_algebra.specs.Meaning.{bag, names_of}
use Rattle.sql_algebra.specs.Soundness.{IsSound}
use Rattle.csv_tables.specs.Constraints.{instance_rows}
use Rattle.row_eval.specs.Stored.{row_values, stored}
use Rattle.row_eval.specs.Typed.{MeetsTypes}
use Rattle.view_check.proofs.ValidTables.{all_from_each}
use Rattle.pgq_program.specs.declared.halt.Halt.{Halt}
use Rattle.pgq_program.specs.declared.halt.Halt.TheVariants as h
use Rattle.pgq_program.specs.Halts.{halting}
use Rattle.pgq_program.specs.Rows.{too_many, rows_due}
use Rattle.pgq_program.proofs.RowWidths.{rows_width}

-- rows that fit a valid catalog are of its types
pub meets : (catalog : Catalog) (instance : InstanceRows) → IsValidCatalog catalog → Fits catalog instance → MeetsTypes catalog instance
meets catalog instance valid fits = record { few = valid.few_tables; tables = fits.tables; rows = λ place within row k. (fits.rows place within).typed row k }

module _ (role : Role) (catalog : Catalog) (query : SqlQuery) (instance : InstanceRows) where
  pub rows_given : (rows : TableRows) → rows ≡ bag catalog query instance → length (bag catalog query instance) ≤ 1000000 → halting (rows_due role catalog query instance) ≡ Ok rows
  rows_given rows is few =
      ap (λ b. halting (cond b (let r : Result TableRows Refusal = Ok (bag catalog query instance) in r) (Err (too_many role))))
      (le-leb (length (bag catalog query instance)) 1000000 few) ∙ ap Ok (sym is)

  pub rows_refused : 1000000 < length (bag catalog query instance) → halting (rows_due role catalog query instance) ≡ Err (h.Refused (too_many role))
  rows_refused more = by (nat_le (length (bag catalog query instance)) 1000000) refl
    where
      by : (b : Bool) → nat_le (length (bag catalog query instance)) 1000000 ≡ b → halting (rows_due role catalog query instance) ≡ Err (h.Refused (too_many role))
      by true e = absurd (let few = leb-true (length (bag catalog query instance)) 1000000 e in omega (arith, few, more))
      by false e = ap (λ b. halting (cond b (let r : Result TableRows Refusal = Ok (bag catalog query instance) in r) (Err (too_many role)))) e

-- the rows are as long as the names
widths : (n : ℕ) (rows : List Row) → AllByRecursion (λ (row : RowValues). length row ≡ n) (row_values rows) → AllByRecursion (λ (row : Row). length row.values ≡ n) rows
widths n [] h = tt
widths n (row ∷ rows) h = (h.0, widths n rows h.1)

pub fit : (catalog : Catalog) (query : SqlQuery) (instance : InstanceRows) (rows : List Row) → IsSound query catalog → row_values rows ≡ bag catalog query instance
    → All (λ (row : Row). length row.values ≡ length (names_of query)) rows
fit catalog query instance rows sound is =
    all_from_each _ rows
    (widths (length (names_of query)) rows (subst (AllByRecursion (λ (row : RowValues). length row ≡ length (names_of query))) (sym is) (rows_width catalog instance query sound)))
