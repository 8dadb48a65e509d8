-- The rows of the generated run, one person after another.
use Rattle.std.proofs.Common.{◌≡◌, ℕ, zero, suc, ◌+◌, List, [], ◌∷◌, ◌++◌, map, flat_map, sym, ap, ◌∙◌, arith, append_assoc, append-nil}
use Rattle.std.specs.List.{range_with_len}
use Rattle.std.proofs.lemmas.List.{map-append}
use Rattle.std.proofs.lemmas.List.FromFn.{map-range_with_len_more}
use Rattle.pgq_base.specs.declared.rows.Row.{Row}
use Rattle.pgq_base.specs.Instances.{RowValues, TableRows}

abbrev pub values_in : Row → RowValues
values_in row = row.values

-- one more row
pub one_more : (f : ℕ → RowValues) (rows : List Row) (row : Row) (i : ℕ) → map values_in rows ≡ map f (range_with_len 1 i) → row.values ≡ f (i + 1)
    → map values_in (rows ++ row ∷ []) ≡ map f (range_with_len 1 (i + 1))
one_more f rows row i made is =
    let step : map f (range_with_len 1 (i + 1)) ≡ map f (range_with_len 1 i) ++ f (i + 1) ∷ [] = map-range_with_len_more f 1 i (i + 1) (omega arith) in
    map-append values_in rows (row ∷ []) ∙ ap (λ l. l ++ row.values ∷ []) made ∙ ap (λ v. map f (range_with_len 1 i) ++ v ∷ []) is ∙ sym step

flat_range : (f : ℕ → TableRows) (a n : ℕ) → flat_map f (range_with_len a (n + 1)) ≡ flat_map f (range_with_len a n) ++ f (a + n)
flat_range f a zero = append-nil (f a) ∙ ap f (omega arith)
flat_range f a (suc n) =
    let there : a + 1 + n ≡ a + suc n = omega arith in
    let longer : suc n + 1 ≡ suc (n + 1) = omega arith in
    ap (λ k. flat_map f (range_with_len a k)) longer ∙ ap (λ l. f a ++ l) (flat_range f (a + 1) n)
    ∙ sym (append_assoc (f a) (flat_map f (range_with_len (a + 1) n)) (f (a + 1 + n)))
    ∙ ap (λ k. (f a ++ flat_map f (range_with_len (a + 1) n)) ++ f k) there

-- the rows of one more person
pub some_more : (f : ℕ → TableRows) (rows more : List Row) (i : ℕ) → map values_in rows ≡ flat_map f (range_with_len 1 i) → map values_in more ≡ map values_in rows ++ f (i + 1)
    → map values_in more ≡ flat_map f (range_with_len 1 (i + 1))
some_more f rows more i made is =
    let there : 1 + i ≡ i + 1 = omega arith in
    is ∙ ap (λ l. l ++ f (i + 1)) made ∙ ap (λ k. flat_map f (range_with_len 1 i) ++ f k) (sym there) ∙ sym (flat_range f 1 i)
