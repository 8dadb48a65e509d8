-- The rows of a table's text are in the one ascending order that there is.
use Rattle.std.proofs.Common.{◌≡◌, zero, suc, ◌+◌, ◌<◌, Bool, true, false, cond, List, [], ◌∷◌, map, length, get_or, refl, ap, ◌∙◌, arith, add-one, Ordering, Less, Equal}
use Rattle.std.proofs.Common.{Greater, is_lt, is_gt, IsPermutation, IsSorted}
use Rattle.std.specs.Prelude.{IsSortedBy}
use Rattle.std.specs.Ordering.{ordering_reverse}
use Rattle.std.proofs.lemmas.List.{get_or-map, length-map}
use Rattle.std.proofs.lemmas.List.Sorted.{IsPermutation-refl, IsPermutation-cons, IsPermutation-trans, IsPermutation-sym, IsPermutation-middle}
use Rattle.multisets.proofs.Ranks.{sorted_equal}
use Rattle.pgq_base.proofs.ValueOrder.{exact_value, exact_list, value_itself}
use Rattle.pgq_base.specs.Instances.{RowValues, TableRows}
use Rattle.pgq_base.specs.Values.{value_order}
use Rattle.csv_tables.specs.KeyHashes.{row_total}
use Rattle.csv_tables.specs.Writing.{ascending, inserted, row_order}

pub exact_row : (a b : RowValues) → row_order a b ≡ Equal → a ≡ b
exact_row = exact_list value_order exact_value value_itself

-- a list in order behind a row that is not above its first
sorted_cons : (row : RowValues) (rows : TableRows) → ((d : RowValues) → 0 < length rows → is_lt (row_order (get_or rows 0 d) row) ≡ false) → IsSorted row_order rows
    → IsSorted row_order (row ∷ rows)
sorted_cons row rows first sorted zero d low high = first d (omega arith)
sorted_cons row rows first sorted (suc k) d low high = rw add-one (rw add-one at (sorted k d (omega arith) (omega arith)))

sorted_tail : (row : RowValues) (rows : TableRows) → IsSorted row_order (row ∷ rows) → IsSorted row_order rows
sorted_tail row rows sorted = λ k d p q. rw add-one (rw add-one at (sorted (suc k) d (omega arith) (omega arith)))

sorted_first : (row : RowValues) (rows : TableRows) → IsSorted row_order (row ∷ rows) → (d : RowValues) → 0 < length rows → is_lt (row_order (get_or rows 0 d) row) ≡ false
sorted_first row rows sorted d h = sorted 0 d (omega arith) (omega arith)

-- what holds of the row and of the first row holds of the first row after the insertion
first_inserted : (P : RowValues → Type 0) (row : RowValues) (rows : TableRows) → P row → ((d : RowValues) → 0 < length rows → P (get_or rows 0 d)) → (d : RowValues)
    → P (get_or (inserted row rows) 0 d)
first_inserted P row [] here there d = here
first_inserted P row (first ∷ rest) here there d = by (is_gt (row_order row first))
  where
    by : (b : Bool) → P (get_or (cond b (first ∷ inserted row rest) (row ∷ (first ∷ rest))) 0 d)
    by true = there d (omega arith)
    by false = here

above : (o : Ordering) → is_gt o ≡ true → is_lt o ≡ false
above Less h = cc
above Equal h = refl
above Greater h = refl

turned : (o : Ordering) → is_gt o ≡ false → is_lt (ordering_reverse o) ≡ false
turned Less h = refl
turned Equal h = refl
turned Greater h = h

inserted_sorted : (row : RowValues) (rows : TableRows) → IsSorted row_order rows → IsSorted row_order (inserted row rows)
inserted_sorted row [] sorted = λ k d p q. absurd (omega arith)
inserted_sorted row (first ∷ rest) sorted = by (is_gt (row_order row first)) refl (inserted_sorted row rest (sorted_tail first rest sorted))
  where
    by : (b : Bool) → is_gt (row_order row first) ≡ b → IsSorted row_order (inserted row rest) → IsSorted row_order (cond b (first ∷ inserted row rest) (row ∷ (first ∷ rest)))
    by true e more =
        sorted_cons first (inserted row rest)
        (λ d h. first_inserted (λ r. is_lt (row_order r first) ≡ false) row rest (above (row_order row first) e) (sorted_first first rest sorted) d) more
    by false e more = sorted_cons row (first ∷ rest) (λ d h. ap is_lt (row_total.antisymm first row) ∙ turned (row_order row first) e) sorted

ascending_sorted : (rows : TableRows) → IsSorted row_order (ascending rows)
ascending_sorted [] = λ k d p q. absurd (omega arith)
ascending_sorted (row ∷ rows) = inserted_sorted row (ascending rows) (ascending_sorted rows)

inserted_permutation : (row : RowValues) (rows : TableRows) → IsPermutation (row ∷ rows) (inserted row rows)
inserted_permutation row [] = IsPermutation-refl (row ∷ [])
inserted_permutation row (first ∷ rest) = by (is_gt (row_order row first)) (inserted_permutation row rest)
  where
    by : (b : Bool) → IsPermutation (row ∷ rest) (inserted row rest) → IsPermutation (row ∷ (first ∷ rest)) (cond b (first ∷ inserted row rest) (row ∷ (first ∷ rest)))
    by true more =
        IsPermutation-trans (row ∷ (first ∷ rest)) (first ∷ (row ∷ rest)) (first ∷ inserted row rest) (IsPermutation-middle (row ∷ []) first rest)
        (IsPermutation-cons first (row ∷ rest) (inserted row rest) more)
    by false more = IsPermutation-refl (row ∷ (first ∷ rest))

ascending_permutation : (rows : TableRows) → IsPermutation rows (ascending rows)
ascending_permutation [] = IsPermutation-refl []
ascending_permutation (row ∷ rows) =
    IsPermutation-trans (row ∷ rows) (row ∷ ascending rows) (inserted row (ascending rows)) (IsPermutation-cons row rows (ascending rows) (ascending_permutation rows))
    (inserted_permutation row (ascending rows))

-- a sorted order of the rows is the ascending one
pub is_ascending : (rows lines : TableRows) → IsPermutation rows lines → IsSorted row_order lines → lines ≡ ascending rows
is_ascending rows lines p sorted =
    sorted_equal row_order row_total exact_row lines (ascending rows)
    (IsPermutation-trans lines rows (ascending rows) (IsPermutation-sym rows lines p) (ascending_permutation rows)) sorted (ascending_sorted rows)

-- two orders of the same rows have one ascending order
pub ascending_once : (xs ys : TableRows) → IsPermutation xs ys → ascending xs ≡ ascending ys
ascending_once xs ys p =
    is_ascending ys (ascending xs) (IsPermutation-trans ys xs (ascending xs) (IsPermutation-sym xs ys p) (ascending_permutation xs)) (ascending_sorted xs)

-- elements that are sorted by their rows have sorted rows
pub sorted_rows : {X : Type 0} (row_of : X → RowValues) (xs : List X) → IsSortedBy (λ x y. is_lt (row_order (row_of x) (row_of y))) xs → IsSorted row_order (map row_of xs)
sorted_rows row_of [] sorted = λ k d p q. absurd (omega arith)
sorted_rows row_of (x ∷ xs) sorted = λ k d p q.
    let size = length-map (x ∷ xs) row_of in
    let here = get_or-map row_of (x ∷ xs) k x d (omega arith) in
    let next = get_or-map row_of (x ∷ xs) (k + 1) x d (omega arith) in
    rw (here, next) (sorted k x p (omega arith))
