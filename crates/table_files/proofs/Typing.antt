-- Rows of files are rows of their tables, and an instance without a fault fits.
use Rattle.std.proofs.Common.{◌≡◌, ℕ, zero, suc, ◌+◌, ◌<◌, ◌^◌, ◌==◌, Bool, true, false, List, [], ◌∷◌, map, length, get_or, set, Option, None, Some, Ok, inl, inr, refl, sym, ap}
use Rattle.std.proofs.Common.{◌∙◌, subst, arith, zero-add, get_or-set_same, get_or-set_other}
use Rattle.std.specs.Prelude.{⊤}
use Rattle.std.proofs.lemmas.List.{length-map, length-set}
use Rattle.std.proofs.lemmas.Bool.Decides.{Decides-eqb}
use Rattle.multisets.specs.Bags.{IsIn}
use Rattle.pgq_base.specs.declared.refusal.Refusal.{Refusal}
use Rattle.pgq_base.specs.Instances.{RowValues, TableRows, InstanceRows, rows_at}
use Rattle.graph_ast.specs.declared.catalog.Catalog.{Catalog}
use Rattle.graph_ast.specs.declared.catalog.Table.{Table}
use Rattle.graph_ast.specs.Catalogs.{IsValidCatalog}
use Rattle.graph_ast.specs.Fits.{Fits, IsRowOf, no_rows, without_rows}
use Rattle.graph_ast.specs.Lookups.{table_at}
use Rattle.csv_tables.specs.Constraints.{constraints_of, instance_refusal, rows_fault, verdict}
use Rattle.csv_tables.specs.Reading.{table_rows}
use Rattle.csv_tables.specs.Typed.{IsTyped}
use Rattle.csv_tables.proofs.FitLemmas.{get_or_any, holds_from, tables_from}
use Rattle.csv_tables.proofs.TypedLemmas.{table_typed}

-- ---- no rows

no_row : (tables : List Table) (place : ℕ) (row : RowValues) → IsIn row (rows_at (map no_rows tables) place) → ⊥
no_row [] place row h = h
no_row (table ∷ tables) zero row h = h
no_row (table ∷ tables) (suc place) row h = no_row tables place row h

pub typed_none : (catalog : Catalog) → IsTyped catalog (without_rows catalog)
typed_none catalog = record {
  tables = length-map catalog.tables no_rows;
  rows = λ place there row h. absurd (no_row catalog.tables place row h);
}

-- ---- the rows of one more file

module _ (catalog : Catalog) (instance : InstanceRows) (typed : IsTyped catalog instance) (place : ℕ) (within : place < length catalog.tables) (bytes : List ℕ) (rows : TableRows)
    (read : table_rows bytes (table_at catalog place) ≡ Ok rows) where
  row_typed : (p : ℕ) → p < length catalog.tables → (row : RowValues) → IsIn row (rows_at (set instance place rows) p) → IsRowOf (table_at catalog p).columns row
  row_typed p there row h = by (p == place) refl
    where
      by : (t : Bool) → (p == place) ≡ t → IsRowOf (table_at catalog p).columns row
      by true e =
          let same : p ≡ place = (Decides-eqb p place).0 e in
          let inside : place < length instance = omega (arith, typed.tables) in
          let here : rows_at (set instance place rows) p ≡ rows = ap (rows_at (set instance place rows)) same ∙ get_or-set_same instance place rows [] inside in
          let mine : IsIn row rows = subst (IsIn row) here h in
          subst (λ n. IsRowOf (table_at catalog n).columns row) (sym same) (table_typed bytes (table_at catalog place) rows read row mine)
      by false e =
          let other : p ≡ place → ⊥ = λ same. (let yes : (p == place) ≡ true = (Decides-eqb p place).1 same in cc) in
          typed.rows p there row (subst (IsIn row) (get_or-set_other instance place p rows [] other) h)

  pub typed_more : IsTyped catalog (set instance place rows)
  typed_more = record { tables = length-set instance place rows ∙ typed.tables; rows = row_typed }

-- ---- an instance without a fault

pub fits_checked : (catalog : Catalog) (instance : InstanceRows) → IsTyped catalog instance → instance_refusal catalog instance ≡ None → Fits catalog instance
fits_checked catalog instance typed none = record {
  tables = typed.tables;
  rows = λ place there.
      let table = table_at catalog place in
      let here : 0 + place ≡ place = zero-add place in
      let holds = holds_from instance table (rows_at instance place)
      (subst (λ n. rows_fault (constraints_of instance table) [] (rows_at instance n) ≡ None) here (tables_from instance 0 catalog.tables none place _ there)) in
      record { typed = typed.rows place there; keys = holds.keys; references = holds.references };
}

pub no_refusal : (o : Option Refusal) (u : ⊤) → verdict o ≡ Ok u → o ≡ None
no_refusal None u h = refl
no_refusal (Some refusal) u h = cc

-- ---- the table at a place

in_at : {A : Type 0} (xs : List A) (i : ℕ) (x : A) → i < length xs → x ≡ get_or xs i x → IsIn x xs
in_at [] i x h e = absurd (omega arith)
in_at (y ∷ xs) zero x h e = inl (sym e)
in_at (y ∷ xs) (suc i) x h e = inr (in_at xs i x (omega arith) e)

module _ (catalog : Catalog) where
  pub few_columns : IsValidCatalog catalog → (i : ℕ) (table : Table) → i < length catalog.tables → table ≡ get_or catalog.tables i table → length table.columns < 2 ^ 32
  few_columns valid i table h is = (valid.tables table (in_at catalog.tables i table h is)).few_columns

  pub table_there : (i : ℕ) (table : Table) → i < length catalog.tables → table ≡ get_or catalog.tables i table → table ≡ table_at catalog i
  table_there i table h is = is ∙ get_or_any catalog.tables i table _ h
