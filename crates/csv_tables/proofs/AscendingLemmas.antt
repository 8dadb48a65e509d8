-- Rows whose keys ascend repeat none.
use Rattle.std.proofs.Common.{◌≡◌, ℕ, ◌+◌, ◌<◌, Bool, true, false, List, length, get_or, Option, Some, None, refl, sym, ap, ◌∙◌, Ordering, Less, Equal, Greater}
use mathlib.Core.Bool.{true≢false}
use Rattle.std.specs.Prelude.{◌||◌, ◌&&◌, not, IfSome}
use Rattle.std.specs.Ordering.{is_eq, is_le, ordering_reverse}
use Rattle.std.specs.BTreeMap.Comparable.{le_lt_trans}
use Rattle.pgq_base.specs.declared.rows.Row.{Row}
use Rattle.pgq_base.specs.declared.value.Value.{Value}
use Rattle.pgq_base.specs.Instances.{RowValues, TableRows, same_values, values_at}
use Rattle.graph_ast.specs.Fits.{has_null}
use Rattle.csv_tables.specs.declared.keys.KeyOf.{KeyOf}
use Rattle.csv_tables.specs.Constraints.{has_values, repeats}
use Rattle.csv_tables.specs.KeyHashes.{row_total, values_in}
use Rattle.csv_tables.specs.Writing.{row_order}
use Rattle.csv_tables.proofs.CheckingLemmas.{before, values_more}

-- no key is above the last one. There is one behind the first row
abbrev IsAtMost : Option KeyOf → List Value → Type 0
IsAtMost None values = ⊥
IsAtMost (Some last) values = is_le (row_order values (values_in last)) ≡ true

-- the keys of the rows so far are not above the last one
abbrev pub IsHighest : List ℕ → TableRows → Option KeyOf → Type 0
IsHighest columns earlier last = (values : List Value) → has_values columns earlier values ≡ true → IsAtMost last values

-- the key is above the last one, if there is one
abbrev pub IsNext : Option KeyOf → List Value → Type 0
IsNext last key = IfSome last (λ k. row_order (values_in k) key ≡ Less)

not_above : (last : Option KeyOf) (key : List Value) → IsAtMost last key → IsNext last key → ⊥
not_above None key most next = most
not_above (Some k) key most next =
    let turned : row_order key (values_in k) ≡ Greater = row_total.antisymm key (values_in k) ∙ ap ordering_reverse next in
    true≢false (sym most ∙ ap is_le turned)

without : (a : Bool) → (a && false) ≡ false
without true = refl
without false = refl

-- such a row repeats no earlier one
pub nothing_repeated : (columns : List ℕ) (earlier : TableRows) (last : Option KeyOf) (row : RowValues) → IsHighest columns earlier last → IsNext last (values_at columns row)
    → repeats columns earlier row ≡ false
nothing_repeated columns earlier last row highest next = by (has_values columns earlier (values_at columns row)) (highest (values_at columns row))
  where
    by : (b : Bool) → (b ≡ true → IsAtMost last (values_at columns row)) → (not (has_null (values_at columns row)) && b) ≡ false
    by true most = absurd (not_above last (values_at columns row) (most refl) next)
    by false most = without (not (has_null (values_at columns row)))

same_is_le : (o : Ordering) → is_eq o ≡ true → is_le o ≡ true
same_is_le Less e = refl
same_is_le Equal e = refl
same_is_le Greater e = e

below_next : (last : Option KeyOf) (values key : List Value) → IsAtMost last values → IsNext last key → is_le (row_order values key) ≡ true
below_next None values key most next = absurd most
below_next (Some k) values key most next = ap is_le (le_lt_trans row_total values (values_in k) key most next)

-- and is the highest one
pub highest_more : (columns : List ℕ) (rows : List Row) (i : ℕ) (row : Row) (last : Option KeyOf) → i < length rows → row ≡ get_or rows i row
    → IsHighest columns (before rows i) last → IsNext last (values_at columns row.values)
    → (values : List Value) → has_values columns (before rows (i + 1)) values ≡ true → is_le (row_order values (values_at columns row.values)) ≡ true
highest_more columns rows i row last h is highest next values there =
    by (same_values values (values_at columns row.values)) refl (values_more columns rows i row values h is ∙ there)
  where
    by : (b : Bool) → same_values values (values_at columns row.values) ≡ b → (b || has_values columns (before rows i) values) ≡ true
        → is_le (row_order values (values_at columns row.values)) ≡ true
    by true e so = same_is_le (row_order values (values_at columns row.values)) e
    by false e so = below_next last values (values_at columns row.values) (highest values so) next
