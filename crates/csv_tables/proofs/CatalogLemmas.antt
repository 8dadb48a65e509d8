-- The columns of a valid catalog have numbers of 32 bits.
use Rattle.std.proofs.Common.{ℕ, zero, suc, ◌<◌, ◌^◌, inl, inr, List, [], ◌∷◌, length, get_or, refl, arith}
use Rattle.std.specs.Prelude.{All}
use Rattle.multisets.specs.Bags.{IsIn}
use Rattle.graph_ast.specs.declared.catalog.Catalog.{Catalog}
use Rattle.graph_ast.specs.declared.catalog.Table.{Table}
use Rattle.graph_ast.specs.Catalogs.{AreColumnsOf, IsValidCatalog, IsValidTable}
use Rattle.csv_tables.specs.Constraints.{HasNumbers, IsNumbered}

in_at : {A : Type 0} (xs : List A) (k : ℕ) (d : A) → k < length xs → IsIn (get_or xs k d) xs
in_at [] k d h = absurd (omega arith)
in_at (x ∷ xs) zero d h = inl refl
in_at (x ∷ xs) (suc k) d h = inr (in_at xs k d (omega arith))

numbered : (table : Table) (columns : List ℕ) → length table.columns < 2 ^ 32 → AreColumnsOf table columns → IsNumbered columns
numbered table columns few are =
    let within : get_or columns 0 0 < length table.columns = are.places (get_or columns 0 0) (in_at columns 0 0 are.some) in
    omega (arith, within, few)

table_numbers : (catalog : Catalog) (table : Table) → IsValidTable catalog table → HasNumbers table
table_numbers catalog table valid = record {
  keys = λ k d h. numbered table _ valid.few_columns (valid.keys (get_or table.keys k d) (in_at table.keys k d h));
  references = λ k d h. numbered table _ valid.few_columns (valid.references (get_or table.references k d) (in_at table.references k d h)).columns;
}

pub valid_numbers : (catalog : Catalog) → IsValidCatalog catalog → All HasNumbers catalog.tables
valid_numbers catalog valid k d h = table_numbers catalog (get_or catalog.tables k d) (valid.tables (get_or catalog.tables k d) (in_at catalog.tables k d h))
