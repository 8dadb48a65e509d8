-- Rows that meet their columns, one after another.
use Rattle.std.proofs.Common.{◌≡◌, ℕ, ◌+◌, ◌<◌, List, [], ◌∷◌, ◌++◌, take, length, get_or, sym, subst, inl, inr}
use Rattle.multisets.specs.Bags.{IsIn}
use Rattle.pgq_base.specs.declared.rows.Row.{Row}
use Rattle.pgq_base.specs.Instances.{RowValues}
use Rattle.graph_ast.specs.declared.catalog.Column.{Column}
use Rattle.graph_ast.specs.Fits.{IsRowOf}
use Rattle.row_eval.specs.Stored.{row_values}
use Rattle.row_eval.proofs.SortLemmas.{take_next}

in_last : (P : RowValues → Type 0) (xs : List Row) (x : Row) → ((row : RowValues) → IsIn row (row_values xs) → P row) → P x.values
    → (row : RowValues) → IsIn row (row_values (xs ++ x ∷ [])) → P row
in_last P [] x before last row (inl e) = subst P e last
in_last P [] x before last row (inr k) = absurd k
in_last P (y ∷ xs) x before last row (inl e) = before row (inl e)
in_last P (y ∷ xs) x before last row (inr k) = in_last P xs x (λ r m. before r (inr m)) last row k

-- of the first rows and one more
pub rows_next : (columns : List Column) (rows : List Row) (i : ℕ) (x : Row) → i < length rows → x ≡ get_or rows i x
    → ((row : RowValues) → IsIn row (row_values (take i rows)) → IsRowOf columns row) → IsRowOf columns x.values
    → (row : RowValues) → IsIn row (row_values (take (i + 1) rows)) → IsRowOf columns row
rows_next columns rows i x h is before fits row in_it =
    in_last (IsRowOf columns) (take i rows) x before fits row (subst (λ l. IsIn row (row_values l)) (sym (take_next rows i x h is)) in_it)
