-- The groups of each key of an access, and the places that they give.
use Rattle.std.proofs.Common.{◌≡◌, ℕ, suc, zero, ◌+◌, ◌<◌, ◌||◌, Bool, true, false, List, [], ◌∷◌, ◌++◌, take, length, get_or, refl, sym, ap, subst, ◌∙◌, arith, Option, Some}
use Rattle.std.proofs.Common.{None, eq-eqb}
use Rattle.std.specs.Prelude.{filter}
use Rattle.std.specs.Hash.FoldHasher as folding
use Rattle.std.proofs.lemmas.Bool.{and_parts}
use Rattle.std.proofs.lemmas.List.Folds.{list_any_more}
use Rattle.pgq_base.specs.Instances.{RowValues, TableRows, InstanceRows, rows_at}
use Rattle.row_eval.specs.declared.access.Access.{Access}
use Rattle.row_eval.specs.declared.access.Key.{Key}
use Rattle.row_eval.specs.declared.access.Tied.{Tied}
use Rattle.row_eval.specs.declared.index.Groups.{Groups}
use Rattle.row_eval.specs.declared.index.Index.{Index}
use Rattle.row_eval.specs.Slots.{Stack, lent_rows}
use Rattle.row_eval.specs.Access.{matches_row, rows_given, rows_among, ties_agree, some_agree, pairs_agree}
use Rattle.row_eval.specs.Served.{row_code, stack_code, is_code, shares_code, is_candidate, places_from, merge, IsGroupsOf, AreGroupsOf, IsIndexOf}
use Rattle.row_eval.proofs.IndexLemmas.{rows_at_places, each_below, filter_within, places_same, places_none, merge_places}
use Rattle.row_eval.proofs.RunLemmas.{codes_equal, no_ties}

-- ---- groups

groups_next : (rows : TableRows) (keys : List Key) (i : ℕ) (key : Key) → i < length keys → key ≡ get_or keys i key → (all : List Groups) (new : Groups)
    → AreGroupsOf (take i keys) rows all → IsGroupsOf key.tied rows new → AreGroupsOf (take (suc i) keys) rows (all ++ new ∷ [])
groups_next rows [] i key h is all new before one = absurd (omega arith)
groups_next rows (k ∷ keys) zero key h is [] new before one = (subst (λ (x : Key). IsGroupsOf x.tied rows new) is one, tt)
groups_next rows (k ∷ keys) zero key h is (g ∷ all) new before one = absurd before
groups_next rows (k ∷ keys) (suc i) key h is [] new before one = absurd before
groups_next rows (k ∷ keys) (suc i) key h is (g ∷ all) new before one = (before.0, groups_next rows keys i key (omega (arith, h)) is all new before.1 one)

pub groups_more : (rows : TableRows) (keys : List Key) (i : ℕ) (key : Key) → i < length keys → key ≡ get_or keys i key → (all : List Groups) (new : Groups)
    → AreGroupsOf (take i keys) rows all → IsGroupsOf key.tied rows new → AreGroupsOf (take (i + 1) keys) rows (all ++ new ∷ [])
groups_more rows keys i key h is all new before one =
    let next : suc i ≡ i + 1 = omega arith in
    subst (λ n. AreGroupsOf (take n keys) rows (all ++ new ∷ [])) next (groups_next rows keys i key h is all new before one)

-- there are groups for each key
pub groups_long : (rows : TableRows) (keys : List Key) (all : List Groups) → AreGroupsOf keys rows all → length all ≡ length keys
groups_long rows [] [] h = refl
groups_long rows [] (g ∷ all) h = absurd h
groups_long rows (k ∷ keys) [] h = absurd h
groups_long rows (k ∷ keys) (g ∷ all) h = ap suc (groups_long rows keys all h.1)

pub groups_at : (rows : TableRows) (keys : List Key) (all : List Groups) → AreGroupsOf keys rows all → (i : ℕ) (key : Key) (groups : Groups) → i < length keys
    → key ≡ get_or keys i key → groups ≡ get_or all i groups → IsGroupsOf key.tied rows groups
groups_at rows [] all h i key groups within is at = absurd (omega arith)
groups_at rows (k ∷ keys) [] h i key groups within is at = absurd h
groups_at rows (k ∷ keys) (g ∷ all) h zero key groups within is at =
    subst (λ (x : Key). IsGroupsOf x.tied rows groups) (sym is) (subst (IsGroupsOf k.tied rows) (sym at) h.0)
groups_at rows (k ∷ keys) (g ∷ all) h (suc i) key groups within is at = groups_at rows keys all h.1 i key groups (omega (arith, within)) is at

-- ---- candidates

-- no row by no key
pub no_candidates : (s : Stack) (rows : TableRows) → places_from (is_candidate [] s) 0 rows ≡ []
no_candidates s rows = places_none (is_candidate [] s) (λ row. refl) 0 rows

-- those of one key more
pub more_candidates : (s : Stack) (rows : TableRows) (keys : List Key) (i : ℕ) (key : Key) → i < length keys → key ≡ get_or keys i key → (all : List ℕ)
    → all ≡ places_from (is_candidate (take i keys) s) 0 rows
    → merge all (places_from (λ row. shares_code (stack_code key.tied s) (row_code key.tied row)) 0 rows) ≡ places_from (is_candidate (take (i + 1) keys) s) 0 rows
more_candidates s rows keys i key h is all before =
    let one = λ (row : RowValues) (k : Key). shares_code (stack_code k.tied s) (row_code k.tied row) in
    ap (λ l. merge l (places_from (λ row. one row key) 0 rows)) before
    ∙ merge_places (is_candidate (take i keys) s) (λ row. one row key) 0 rows
    ∙ places_same (λ row. is_candidate (take i keys) s row || one row key) (is_candidate (take (i + 1) keys) s)
    (λ row. ap (λ k. is_candidate (take i keys) s row || one row k) is ∙ sym (list_any_more (one row) keys i key h)) 0 rows

-- those of one key alone
pub one_candidate : (s : Stack) (rows : TableRows) (keys : List Key) (key : Key) → length keys ≡ 1 → key ≡ get_or keys 0 key
    → places_from (λ row. shares_code (stack_code key.tied s) (row_code key.tied row)) 0 rows ≡ places_from (is_candidate keys s) 0 rows
one_candidate s rows [] key long is = absurd cc
one_candidate s rows (k ∷ []) key long is =
    places_same (λ row. shares_code (stack_code key.tied s) (row_code key.tied row)) (is_candidate (k ∷ []) s)
    (λ row. ap (λ (x : Key). shares_code (stack_code x.tied s) (row_code x.tied row)) is ∙ or_none (shares_code (stack_code k.tied s) (row_code k.tied row))) 0 rows
  where
    or_none : (b : Bool) → b ≡ (b || false)
    or_none true = refl
    or_none false = refl
one_candidate s rows (k ∷ (l ∷ keys)) key long is = absurd (omega (arith, long))

-- ---- a row that agrees is a candidate

ties_shared : (s : Stack) (row : RowValues) (tied : List Tied) → ties_agree s row tied ≡ true → shares_code (stack_code tied s) (row_code tied row) ≡ true
ties_shared s row tied h = by (stack_code tied s) refl
  where
    by : (o : Option ℕ) → stack_code tied s ≡ o → shares_code (stack_code tied s) (row_code tied row) ≡ true
    by None e = let never : true ≡ false = sym h ∙ no_ties s row folding.initial tied e in absurd cc
    by (Some code) e =
        ap (λ o. shares_code o (row_code tied row)) e ∙ ap (is_code code) (codes_equal s row tied h ∙ e) ∙ eq-eqb code code refl

some_shared : (s : Stack) (row : RowValues) (keys : List Key) → some_agree s row keys ≡ true → is_candidate keys s row ≡ true
some_shared s row [] h = h
some_shared s row (k ∷ keys) h = by (ties_agree s row k.tied) refl h (some_shared s row keys)
  where
    or_true : (b : Bool) → (b || true) ≡ true
    or_true true = refl
    or_true false = refl

    by : (b : Bool) → ties_agree s row k.tied ≡ b → (b || some_agree s row keys) ≡ true → (some_agree s row keys ≡ true → is_candidate keys s row ≡ true)
        → (shares_code (stack_code k.tied s) (row_code k.tied row) || is_candidate keys s row) ≡ true
    by true e g later = ap (λ b. b || is_candidate keys s row) (ties_shared s row k.tied e)
    by false e g later = ap (λ b. shares_code (stack_code k.tied s) (row_code k.tied row) || b) (later g) ∙ or_true (shares_code (stack_code k.tied s) (row_code k.tied row))

module _ (instance : InstanceRows) (access : Access) (s : Stack) (index : Index) (right : IsIndexOf access.keys (rows_at instance access.table) index) (places : List ℕ)
    (are : places ≡ places_from (is_candidate access.keys s) 0 (lent_rows index.rows.items)) where
  abbrev table : TableRows
  table = rows_at instance access.table

  in_table : places ≡ places_from (is_candidate access.keys s) 0 table
  in_table = are ∙ ap (places_from (is_candidate access.keys s) 0) right.lent

  -- the rows at the candidates' places that agree are all that agree
  pub given_of_places : rows_among instance access s places ≡ rows_given instance access s
  given_of_places =
      let has = is_candidate access.keys s in
      ap (rows_among instance access s) in_table
      ∙ ap (filter (matches_row access s)) (rows_at_places has table [] table refl)
      ∙ filter_within (matches_row access s) has
      (λ row h. some_shared s row access.keys (and_parts (some_agree s row access.keys) (pairs_agree row access.pairs) h).0) table

  pub places_below : (j : ℕ) → j < length places → get_or places j 0 < length table
  places_below j h =
      subst (λ l. get_or l j 0 < length table) (sym in_table)
      (each_below (is_candidate access.keys s) 0 table (length table) (omega arith) j (subst (λ l. j < length l) in_table h))
