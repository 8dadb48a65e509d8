-- The different rows of a list.
use Rattle.std.proofs.Common.{◌≡◌, inl, inr, ℕ, ◌+◌, ◌<◌, ◌≤◌, not, Bool, true, false, cond, List, [], ◌∷◌, length, map, drop, get_or, zero-add, refl, sym, ap, ◌∙◌, subst, arith}
use Rattle.std.specs.Prelude.{◌||◌, Decides}
use Rattle.std.specs.List.{list_any}
use Rattle.std.proofs.lemmas.List.{drop_more}
use Rattle.std.proofs.lemmas.List.Sorted.{length_permutation}
use Rattle.multisets.specs.Bags.{IsIn, IsWithoutRepeats}
use Rattle.multisets.proofs.Members.{same_members}
use Rattle.graph_meaning.specs.Lists.{distinct}
use Rattle.graph_meaning.proofs.Members.{in_distinct, from_distinct, distinct_once}
use Rattle.pgq_base.proofs.ValueOrder.{same_values_decides}
use Rattle.pgq_base.specs.declared.rows.Row.{Row}
use Rattle.pgq_base.specs.Instances.{RowValues, TableRows, same_values}
use Rattle.distinct_rows.specs.Different.{different_from, values_of}

-- whether the row is among these
abbrev pub among : RowValues → TableRows → Bool
among row rows = list_any (same_values row) rows

either : (a b : Bool) → (a || b) ≡ false → (a ≡ false) × (b ≡ false)
either true b h = absurd cc
either false b h = (refl, h)

module _ (decides : (xs ys : RowValues) → Decides (same_values xs ys) (xs ≡ ys)) where
  itself : (row : RowValues) → same_values row row ≡ true
  itself row = (decides row row).1 refl

  is_same : (xs ys : RowValues) → same_values xs ys ≡ true → xs ≡ ys
  is_same xs ys h = (decides xs ys).0 h

  -- a different row is one of the rows, and none of the earlier ones
  pub from_rows : (x : RowValues) (earlier rows : TableRows) → IsIn x (different_from earlier rows) → IsIn x rows × (among x earlier ≡ false)
  from_rows x earlier [] h = absurd h
  from_rows x earlier (row ∷ rows) h = by (from_rows x (row ∷ earlier) rows) (among row earlier) refl h
    where
      Later : Type 0
      Later = IsIn x (different_from (row ∷ earlier) rows)

      later : (Later → IsIn x rows × (among x (row ∷ earlier) ≡ false)) → Later → IsIn x (row ∷ rows) × (among x earlier ≡ false)
      later more h = (inr (more h).0, (either (same_values x row) (among x earlier) (more h).1).1)

      by : (Later → IsIn x rows × (among x (row ∷ earlier) ≡ false)) → (t : Bool) → among row earlier ≡ t
          → IsIn x (cond t (different_from (row ∷ earlier) rows) (row ∷ different_from (row ∷ earlier) rows)) → IsIn x (row ∷ rows) × (among x earlier ≡ false)
      by more true e h = later more h
      by more false e (inl same) = (inl same, subst (λ r. among r earlier ≡ false) same e)
      by more false e (inr h) = later more h

  -- each row that is none of the earlier ones is among the different rows
  pub to_different : (x : RowValues) (earlier rows : TableRows) → IsIn x rows → among x earlier ≡ false → IsIn x (different_from earlier rows)
  to_different x earlier [] h none = absurd h
  to_different x earlier (row ∷ rows) h none = by (to_different x (row ∷ earlier) rows) (same_values x row) refl h
    where
      here : x ≡ row → IsIn x (different_from earlier (row ∷ rows))
      here same =
          let new : among row earlier ≡ false = subst (λ r. among r earlier ≡ false) same none in
          rw new (inl (sym same))

      there : (t : Bool) → IsIn x (different_from (row ∷ earlier) rows) → IsIn x (cond t (different_from (row ∷ earlier) rows) (row ∷ different_from (row ∷ earlier) rows))
      there true h = h
      there false h = inr h

      by : (IsIn x rows → among x (row ∷ earlier) ≡ false → IsIn x (different_from (row ∷ earlier) rows)) → (t : Bool) → same_values x row ≡ t → IsIn x (row ∷ rows)
          → IsIn x (different_from earlier (row ∷ rows))
      by more true e h = here (is_same x row e)
      by more false e (inl same) = here (sym same)
      by more false e (inr h) = there (among row earlier) (more h (rw e none))

  pub apart_from : (earlier rows : TableRows) → IsWithoutRepeats (different_from earlier rows)
  apart_from earlier [] = tt
  apart_from earlier (row ∷ rows) = by (apart_from (row ∷ earlier) rows) (among row earlier)
    where
      alone : IsIn row (different_from (row ∷ earlier) rows) → ⊥
      alone h =
          let none : among row (row ∷ earlier) ≡ false = (from_rows row (row ∷ earlier) rows h).1 in
          let no : same_values row row ≡ false = (either (same_values row row) (among row earlier) none).0 in
          let yes : same_values row row ≡ true = itself row in
          cc

      by : IsWithoutRepeats (different_from (row ∷ earlier) rows) → (t : Bool)
          → IsWithoutRepeats (cond t (different_from (row ∷ earlier) rows) (row ∷ different_from (row ∷ earlier) rows))
      by more true = more
      by more false = (alone, more)

-- so there are as many as in the list without repeats
pub as_many : (rows : TableRows) → length (different_from [] rows) ≡ length (distinct same_values rows)
as_many rows = sym (length_permutation (different_from [] rows) (distinct same_values rows)
    (same_members (different_from [] rows) (distinct same_values rows) (apart_from same_values_decides [] rows) (distinct_once same_values same_values_decides rows)
    (λ x. (
      λ h. in_distinct same_values same_values_decides x rows (from_rows same_values_decides x [] rows h).0,
      λ h. to_different same_values_decides x [] rows (from_distinct same_values same_values_decides x rows h) refl,
    ))))

-- ---- counting

counted : (t : Bool) (row : RowValues) (rows : TableRows) → length (cond t rows (row ∷ rows)) ≡ cond t 0 1 + length rows
counted true row rows = omega arith
counted false row rows = omega arith

-- one more row counts unless it is among the earlier ones
one_more : (earlier : TableRows) (rows : List Row) (i : ℕ) (d : Row) → i < length rows
    → length (different_from earlier (map values_of (drop i rows)))
    ≡ cond (among (get_or rows i d).values earlier) 0 1 + length (different_from ((get_or rows i d).values ∷ earlier) (map values_of (drop (i + 1) rows)))
one_more earlier rows i d h =
    let row = get_or rows i d in
    ap (λ l. length (different_from earlier (map values_of l))) (drop_more rows i d h)
    ∙ counted (among row.values earlier) row.values (different_from (row.values ∷ earlier) (map values_of (drop (i + 1) rows)))

-- how far the count is: these rows are in the set, and the others are still to be counted
pub record Counted (seen : RowValues → Bool) (count : ℕ) (rows : List Row) (i : ℕ) : Type 0 where
  pub earlier : TableRows
  pub held : (values : RowValues) → seen values ≡ among values earlier
  pub all : count + length (different_from earlier (map values_of (drop i rows))) ≡ length (distinct same_values (map values_of rows))
  pub few : count ≤ i

pub counted_none : (rows : List Row) (seen : RowValues → Bool) → ((values : RowValues) → seen values ≡ false) → Counted seen 0 rows 0
counted_none rows seen none = record { earlier = []; held = none; all = zero-add _ ∙ as_many (map values_of rows); few = omega arith }

pub counted_more : (before seen : RowValues → Bool) (count : ℕ) (rows : List Row) (i : ℕ) (row : Row) (fresh : Bool) → Counted before count rows i → i < length rows → row
    ≡ get_or rows i row
    → fresh ≡ not (before row.values) → ((values : RowValues) → seen values ≡ (same_values values row.values || before values))
    → Counted seen (cond fresh (count + 1) count) rows (i + 1)
counted_more before seen count rows i row fresh c h is new grown = record {
  earlier = row.values ∷ c.earlier;
  held = λ values. grown values ∙ ap (λ b. same_values values row.values || b) (c.held values);
  all = total (among row.values c.earlier) refl;
  few = few fresh;
}
  where
    more : ℕ
    more = length (different_from (row.values ∷ c.earlier) (map values_of (drop (i + 1) rows)))

    here : length (different_from c.earlier (map values_of (drop i rows))) ≡ cond (among row.values c.earlier) 0 1 + more
    here = subst (λ r. length (different_from c.earlier (map values_of (drop i rows)))
        ≡ cond (among r.values c.earlier) 0 1 + length (different_from (r.values ∷ c.earlier) (map values_of (drop (i + 1) rows)))) (sym is) (one_more c.earlier rows i row h)

    known : fresh ≡ not (among row.values c.earlier)
    known = new ∙ ap not (c.held row.values)

    total : (t : Bool) → among row.values c.earlier ≡ t → cond fresh (count + 1) count + more ≡ length (distinct same_values (map values_of rows))
    total true e =
        let old : fresh ≡ false = known ∙ ap not e in
        let step : length (different_from c.earlier (map values_of (drop i rows))) ≡ 0 + more = here ∙ ap (λ t. cond t 0 1 + more) e in
        let all = c.all in
        rw old (omega arith)
    total false e =
        let first : fresh ≡ true = known ∙ ap not e in
        let step : length (different_from c.earlier (map values_of (drop i rows))) ≡ 1 + more = here ∙ ap (λ t. cond t 0 1 + more) e in
        let all = c.all in
        rw first (omega arith)

    few : (t : Bool) → cond t (count + 1) count ≤ i + 1
    few true = let f = c.few in omega arith
    few false = let f = c.few in omega arith
