-- The places of rows that pass a test.
use Rattle.std.proofs.Common.{◌≡◌, ℕ, suc, zero, ◌+◌, ◌<◌, ◌≤◌, cond, Bool, true, false, ◌||◌, List, [], ◌∷◌, ◌++◌, map, take, length, get_or, refl, sym, ap, subst, ◌∙◌, arith}
use Rattle.std.proofs.Common.{append_assoc}
use mathlib.Core.Bool.{true≢false}
use Rattle.std.specs.Prelude.{filter, nat_lt}
use Rattle.std.proofs.lemmas.Bool.Decides.{nat_tests}
use Rattle.std.proofs.lemmas.List.{take_more}
use Rattle.pgq_base.specs.Instances.{RowValues, TableRows}
use Rattle.std.specs.Borrow.{Bor}
use Rattle.pgq_base.specs.declared.rows.Row.{Row}
use Rattle.row_eval.specs.Slots.{lent_rows}
use Rattle.row_eval.specs.Served.{places_from, put_before, merge}

get_or_behind : (before : TableRows) (x : RowValues) (xs : TableRows) → get_or (before ++ x ∷ xs) (length before) [] ≡ x
get_or_behind [] x xs = refl
get_or_behind (y ∷ ys) x xs = get_or_behind ys x xs

length_more : (before : TableRows) (x : RowValues) → length (before ++ x ∷ []) ≡ suc (length before)
length_more [] x = refl
length_more (y ∷ ys) x = ap suc (length_more ys x)

length_front : (xs : TableRows) (i : ℕ) → i < length xs → length (take i xs) ≡ i
length_front xs zero h = refl
length_front [] (suc i) h = absurd (omega arith)
length_front (x ∷ xs) (suc i) h = ap suc (length_front xs i (omega arith))

pub take_whole : {X : Type 0} (xs : List X) (i : ℕ) → length xs ≤ i → take i xs ≡ xs
take_whole [] zero h = refl
take_whole [] (suc i) h = refl
take_whole (x ∷ xs) zero h = absurd (omega arith)
take_whole (x ∷ xs) (suc i) h = ap (λ l. x ∷ l) (take_whole xs i (omega arith))

module _ (test : RowValues → Bool) where
  places_append : (at : ℕ) (xs ys : TableRows) → places_from test at (xs ++ ys) ≡ places_from test at xs ++ places_from test (at + length xs) ys
  places_append at [] ys = ap (λ n. places_from test n ys) (omega arith)
  places_append at (x ∷ xs) ys = by (test x) (places_append (suc at) xs ys ∙ ap (λ n. places_from test (suc at) xs ++ places_from test n ys) (omega arith))
    where
      by : (b : Bool) → places_from test (suc at) (xs ++ ys) ≡ places_from test (suc at) xs ++ places_from test (at + suc (length xs)) ys
          → cond b (at ∷ places_from test (suc at) (xs ++ ys)) (places_from test (suc at) (xs ++ ys))
          ≡ cond b (at ∷ places_from test (suc at) xs) (places_from test (suc at) xs) ++ places_from test (at + suc (length xs)) ys
      by true e = ap (λ l. at ∷ l) e
      by false e = e

  more : (xs : List ℕ) (b : Bool) (n : ℕ) → xs ++ cond b (n ∷ []) [] ≡ cond b (xs ++ n ∷ []) xs
  more xs true n = refl
  more [] false n = refl
  more (x ∷ xs) false n = ap (λ l. x ∷ l) (more xs false n)

  pub places_more : (rows : TableRows) (i : ℕ) → i < length rows
      → places_from test 0 (take (i + 1) rows) ≡ cond (test (get_or rows i [])) (places_from test 0 (take i rows) ++ i ∷ []) (places_from test 0 (take i rows))
  places_more rows i h =
      let long : length (take i rows) ≡ i = length_front rows i h in
      ap (places_from test 0) (take_more rows i [] h) ∙ places_append 0 (take i rows) (get_or rows i [] ∷ [])
      ∙ ap (λ n. places_from test 0 (take i rows) ++ cond (test (get_or rows i [])) (n ∷ []) []) (let e : 0 + length (take i rows) ≡ i = omega (arith, long) in e)
      ∙ more (places_from test 0 (take i rows)) (test (get_or rows i [])) i

  -- the rows at the places are those that pass
  pub rows_at_places : (all before rows : TableRows) → all ≡ before ++ rows → map (λ i. get_or all i []) (places_from test (length before) rows) ≡ filter test rows
  rows_at_places all before [] e = refl
  rows_at_places all before (x ∷ xs) e = by (test x) (next (rows_at_places all (before ++ x ∷ []) xs (e ∙ sym (append_assoc before (x ∷ []) xs))))
    where
      here : get_or all (length before) [] ≡ x
      here = ap (λ l. get_or l (length before) []) e ∙ get_or_behind before x xs

      next : map (λ i. get_or all i []) (places_from test (length (before ++ x ∷ [])) xs) ≡ filter test xs
          → map (λ i. get_or all i []) (places_from test (suc (length before)) xs) ≡ filter test xs
      next h = subst (λ n. map (λ i. get_or all i []) (places_from test n xs) ≡ filter test xs) (length_more before x) h

      by : (b : Bool) → map (λ i. get_or all i []) (places_from test (suc (length before)) xs) ≡ filter test xs
          → map (λ i. get_or all i []) (cond b (length before ∷ places_from test (suc (length before)) xs) (places_from test (suc (length before)) xs))
          ≡ cond b (x ∷ filter test xs) (filter test xs)
      by true h = ap (λ y. y ∷ map (λ i. get_or all i []) (places_from test (suc (length before)) xs)) here ∙ ap (λ l. x ∷ l) h
      by false h = h

  pub each_below : (at : ℕ) (rows : TableRows) (n : ℕ) → at + length rows ≤ n → (j : ℕ) → j < length (places_from test at rows) → get_or (places_from test at rows) j 0 < n
  each_below at [] n h j b = absurd (omega arith)
  each_below at (x ∷ xs) n h j b = by (test x) j b (each_below (suc at) xs n (omega arith))
    where
      by : (t : Bool) (j : ℕ) → j < length (cond t (at ∷ places_from test (suc at) xs) (places_from test (suc at) xs))
          → ((k : ℕ) → k < length (places_from test (suc at) xs) → get_or (places_from test (suc at) xs) k 0 < n)
          → get_or (cond t (at ∷ places_from test (suc at) xs) (places_from test (suc at) xs)) j 0 < n
      by true zero b later = omega arith
      by true (suc k) b later = later k (omega arith)
      by false k b later = later k b

-- a filter of what a wider one keeps
pub filter_within : {X : Type 0} (p q : X → Bool) → ((x : X) → p x ≡ true → q x ≡ true) → (xs : List X) → filter p (filter q xs) ≡ filter p xs
filter_within p q wider [] = refl
filter_within {X} p q wider (x ∷ xs) = go (p x) (q x) refl refl (filter_within p q wider xs)
  where
    go : (b c : Bool) → p x ≡ b → q x ≡ c → filter p (filter q xs) ≡ filter p xs → filter p (cond c (x ∷ filter q xs) (filter q xs)) ≡ cond b (x ∷ filter p xs) (filter p xs)
    go true true e f h = ap (λ t. cond t (x ∷ filter p (filter q xs)) (filter p (filter q xs))) e ∙ ap (λ l. x ∷ l) h
    go false true e f h = ap (λ t. cond t (x ∷ filter p (filter q xs)) (filter p (filter q xs))) e ∙ h
    go true false e f h = absurd (true≢false (sym (wider x e) ∙ f))
    go false false e f h = h

-- the row that is lent at a place
pub lent_at : (lent : List (Bor Row)) (i : ℕ) (one : Bor Row) → i < length lent → one ≡ get_or lent i one
    → (i < length (lent_rows lent)) × (one.now.values ≡ get_or (lent_rows lent) i [])
lent_at [] i one h is = absurd (omega arith)
lent_at (b ∷ lent) zero one h is = (omega arith, ap (λ (x : Bor Row). x.now.values) is)
lent_at (b ∷ lent) (suc i) one h is = let later = lent_at lent i one (omega (arith, h)) is in let long = later.0 in (omega (arith, long), later.1)

-- ---- places by one test or another

lt_true : (x y : ℕ) → x < y → nat_lt x y ≡ true
lt_true x y h = grind (arith, nat_tests)

lt_false : (x y : ℕ) → y ≤ x → nat_lt x y ≡ false
lt_false x y h = grind (arith, nat_tests)

abbrev IsAbove : ℕ → List ℕ → Type 0
IsAbove x [] = Unit {0}
IsAbove x (y ∷ ys) = x < y

places_above : (test : RowValues → Bool) (x n : ℕ) (rows : TableRows) → x < n → IsAbove x (places_from test n rows)
places_above test x n [] h = tt
places_above test x n (row ∷ rows) h = by (test row) (places_above test x (suc n) rows (omega (arith, h)))
  where
    by : (b : Bool) → IsAbove x (places_from test (suc n) rows) → IsAbove x (cond b (n ∷ places_from test (suc n) rows) (places_from test (suc n) rows))
    by true k = h
    by false k = k

merge_before : (x : ℕ) (xs ys : List ℕ) → IsAbove x ys → merge (x ∷ xs) ys ≡ x ∷ merge xs ys
merge_before x xs [] h = refl
merge_before x xs (y ∷ ys) h =
    ap (λ b. cond b (x ∷ merge xs (y ∷ ys)) (cond (nat_lt y x) (y ∷ put_before x (merge xs) ys) (put_before x (merge xs) ys))) (lt_true x y h)

merge_after : (y : ℕ) (xs ys : List ℕ) → IsAbove y xs → merge xs (y ∷ ys) ≡ y ∷ merge xs ys
merge_after y [] ys h = refl
merge_after y (x ∷ xs) ys h =
    ap (λ b. cond b (x ∷ merge xs (y ∷ ys)) (cond (nat_lt y x) (y ∷ put_before x (merge xs) ys) (put_before x (merge xs) ys))) (lt_false x y (omega (arith, h)))
    ∙ ap (λ b. cond b (y ∷ put_before x (merge xs) ys) (put_before x (merge xs) ys)) (lt_true y x h)

merge_both : (x : ℕ) (xs ys : List ℕ) → IsAbove x ys → merge (x ∷ xs) (x ∷ ys) ≡ x ∷ merge xs ys
merge_both x xs ys h =
    ap (λ b. cond b (x ∷ merge xs (x ∷ ys)) (cond (nat_lt x x) (x ∷ put_before x (merge xs) ys) (put_before x (merge xs) ys))) (lt_false x x (omega arith))
    ∙ ap (λ b. cond b (x ∷ put_before x (merge xs) ys) (put_before x (merge xs) ys)) (lt_false x x (omega arith))
    ∙ merge_before x xs ys h

module _ (at : ℕ) (xs ys all : List ℕ) (above : IsAbove at xs) (other : IsAbove at ys) where
  either_place : (b c : Bool) → merge xs ys ≡ all → merge (cond b (at ∷ xs) xs) (cond c (at ∷ ys) ys) ≡ cond (b || c) (at ∷ all) all
  either_place true true e = merge_both at xs ys other ∙ ap (λ l. at ∷ l) e
  either_place true false e = merge_before at xs ys other ∙ ap (λ l. at ∷ l) e
  either_place false true e = merge_after at xs ys above ∙ ap (λ l. at ∷ l) e
  either_place false false e = e

-- the places by either test, in order
pub merge_places : (p q : RowValues → Bool) (at : ℕ) (rows : TableRows) → merge (places_from p at rows) (places_from q at rows) ≡ places_from (λ row. p row || q row) at rows
merge_places p q at [] = refl
merge_places p q at (row ∷ rows) =
    either_place at (places_from p (suc at) rows) (places_from q (suc at) rows) (places_from (λ row. p row || q row) (suc at) rows)
    (places_above p at (suc at) rows (omega arith)) (places_above q at (suc at) rows (omega arith)) (p row) (q row) (merge_places p q (suc at) rows)

pub places_same : (p q : RowValues → Bool) → ((row : RowValues) → p row ≡ q row) → (at : ℕ) (rows : TableRows) → places_from p at rows ≡ places_from q at rows
places_same p q same at [] = refl
places_same p q same at (row ∷ rows) =
    ap (λ b. cond b (at ∷ places_from p (suc at) rows) (places_from p (suc at) rows)) (same row)
    ∙ ap (λ l. cond (q row) (at ∷ l) l) (places_same p q same (suc at) rows)

pub places_none : (p : RowValues → Bool) → ((row : RowValues) → p row ≡ false) → (at : ℕ) (rows : TableRows) → places_from p at rows ≡ []
places_none p none at [] = refl
places_none p none at (row ∷ rows) =
    ap (λ b. cond b (at ∷ places_from p (suc at) rows) (places_from p (suc at) rows)) (none row) ∙ places_none p none (suc at) rows
