-- The reads of a planned select are within those that the select may have.
use Rattle.std.proofs.Common.{◌≡◌, ℕ, suc, zero, ◌+◌, ◌-◌, ◌<◌, ◌≤◌, ◌^◌, cond, Bool, true, false, List, [], ◌∷◌, ◌++◌, map, take, length, get_or, sum, refl, sym, ap, subst, ◌∙◌}
use Rattle.std.proofs.Common.{arith}
use Rattle.std.specs.Prelude.{flat_map}
use Rattle.std.specs.List.{AllByRecursion}
use Rattle.std.proofs.lemmas.List.{append-nil, take_more}
use Rattle.std.proofs.lemmas.Grind.{flat_map-append}
use Rattle.std.proofs.lemmas.Bool.{and_parts}
use Rattle.pgq_base.specs.Instances.{InstanceRows, rows_at}
use Rattle.expr_tree.specs.declared.tree.Expr.{Expr}
use Rattle.graph_ast.specs.declared.catalog.Catalog.{Catalog}
use Rattle.sql_algebra.specs.declared.tree.FromItem.{FromItem}
use Rattle.sql_algebra.specs.declared.tree.ColumnLeaf.{ColumnLeaf}
use Rattle.sql_algebra.specs.declared.tree.Select.{Select}
use Rattle.sql_algebra.specs.declared.tree.Conjunct.{Conjunct, Conjunct-F, out-Conjunct, roll-Conjunct, roll-out-Conjunct, fold-Conjunct, fold-roll-Conjunct}
use Rattle.sql_algebra.specs.declared.tree.Conjunct.TheVariants as cv
use Rattle.sql_algebra.specs.Catalogs.{rows_of}
use Rattle.sql_algebra.specs.RowReads.{Share, share_step, reads_step, select_reads, partial_tuples, kept_tuples, table_step, tables_step, tables_in}
use Rattle.sql_algebra.specs.Soundness.{select_is_sound}
use Rattle.sql_algebra.specs.Tuples.{Tuple, all_members}
use Rattle.sql_algebra.proofs.Folds.{select_reads_are, at_select, at_not_exists}
use Rattle.row_eval.specs.declared.frame.Condition.{Condition}
use Rattle.row_eval.specs.declared.legs.Leg.{Leg}
use Rattle.row_eval.specs.declared.scope.Reached.{Reached}
use Rattle.row_eval.specs.declared.sorting.Sorted.{Sorted}
use Rattle.row_eval.specs.declared.stage.Stage.{Stage}
use Rattle.row_eval.specs.declared.stage.Stage.TheVariants as v
use Rattle.row_eval.specs.Bounds.{share_of, inner_reads, IsEndWithin, IsWithin, rows_in, inner_tables, item_tables}
use Rattle.row_eval.specs.Joins.{chain_visits, rows_of_legs}
use Rattle.row_eval.specs.Levels.{level_in}
use Rattle.row_eval.specs.Plans.{items_in, plain_at, conditions_in}
use Rattle.row_eval.specs.Scopes.{Placed, placed, reach_under, AreBelow, tuple_of}
use Rattle.row_eval.specs.Slots.{Stack, is_kept}
use Rattle.row_eval.specs.Sorted.{AreDecidedAt, IsSorted, SortsAll, table_place_of, leg_tables}
use Rattle.row_eval.specs.Stages.{all_kept, visits}
use Rattle.row_eval.specs.Typed.{MeetsTypes}
use Rattle.row_eval.proofs.PartialLemmas.{total_behind, partials, partials_all, kept_all, if_kept}
use Rattle.row_eval.proofs.PlanLemmas.{sound_parts}
use Rattle.row_eval.proofs.PlannerLemmas.{legs_rows, placed_long}
use Rattle.row_eval.proofs.ReadLemmas.{AreKept, most, chain_bounded}
use Rattle.row_eval.proofs.StageLemmas.{visits-Keep, visits-Absent, visits-none}
use Rattle.row_eval.proofs.Totals.{total, sum_total, total_append}
use Rattle.row_eval.proofs.TupleLemmas.{map_map}

-- ---- what the definition adds up

module _ (catalog : Catalog) (instance : InstanceRows) where
  plain_of_share : (c : Conjunct) → (share_of catalog instance c).plain ≡ plain_at (out-Conjunct c)
  plain_of_share c = ap (λ x. (share_of catalog instance x).plain) (sym (roll-out-Conjunct c)) ∙ by (out-Conjunct c)
    where
      by : (x : Conjunct-F Conjunct Select) → (share_of catalog instance (roll-Conjunct x)).plain ≡ plain_at x
      by (Conjunct-F.Plain e) = ap (λ (s : Share). s.plain) (fold-roll-Conjunct Share (Tuple → ℕ) share_step (reads_step catalog instance) (Conjunct-F.Plain e))
      by (Conjunct-F.NotExists select) = ap (λ (s : Share). s.plain) (fold-roll-Conjunct Share (Tuple → ℕ) share_step (reads_step catalog instance) (Conjunct-F.NotExists select))

  plains_of_shares : (cs : List Conjunct) → flat_map (λ (s : Share). s.plain) (map (share_of catalog instance) cs) ≡ flat_map (λ c. plain_at (out-Conjunct c)) cs
  plains_of_shares [] = refl
  plains_of_shares (c ∷ cs) =
      ap (λ l. l ++ flat_map (λ (s : Share). s.plain) (map (share_of catalog instance) cs)) (plain_of_share c) ∙ ap (λ l. plain_at (out-Conjunct c) ++ l) (plains_of_shares cs)

  reads_of_shares : (cs : List Conjunct) (tuple : Tuple) → sum (map (λ (s : Share). s.reads tuple) (map (share_of catalog instance) cs)) ≡ inner_reads catalog instance cs tuple
  reads_of_shares cs tuple = ap sum (map_map (λ (s : Share). s.reads tuple) (share_of catalog instance) cs)

  -- the reads of a select, as partial tuples and what is behind the full ones
  select_most : (select : Select) (outer : Tuple) → select_reads catalog instance select outer
      ≡ partials catalog instance outer (conditions_in select.from select.conjuncts) [] select.from
      + total_behind catalog instance outer
      (if_kept catalog instance outer (conditions_in select.from select.conjuncts) (inner_reads catalog instance select.conjuncts)) [] select.from
  select_most select outer =
      let conditions = conditions_in select.from select.conjuncts in
      let shares = map (share_of catalog instance) select.conjuncts in
      ap (λ f. f outer) (select_reads_are catalog instance select)
      ∙ ap (λ (plains : List (Expr ColumnLeaf)). length (partial_tuples catalog instance (all_members select.from ++ plains) select.from outer)
      + sum (map (λ tuple. sum (map (λ (s : Share). s.reads tuple) shares)) (kept_tuples catalog instance (all_members select.from ++ plains) select.from outer)))
      (plains_of_shares select.conjuncts)
      ∙ ap (λ n. n + sum (map (λ tuple. sum (map (λ (s : Share). s.reads tuple) shares)) (kept_tuples catalog instance conditions select.from outer)))
      (partials_all catalog instance outer conditions select.from)
      ∙ ap (λ (l : List ℕ). partials catalog instance outer conditions [] select.from + sum l) (same_reads (kept_tuples catalog instance conditions select.from outer))
      ∙ ap (λ n. partials catalog instance outer conditions [] select.from + n)
      (kept_all catalog instance outer conditions (inner_reads catalog instance select.conjuncts) select.from)
    where
      same_reads : (tuples : List Tuple) → map (λ tuple. sum (map (λ (s : Share). s.reads tuple) (map (share_of catalog instance) select.conjuncts))) tuples
          ≡ map (inner_reads catalog instance select.conjuncts) tuples
      same_reads [] = refl
      same_reads (t ∷ ts) =
          ap (λ n. n ∷ map (λ tuple. sum (map (λ (s : Share). s.reads tuple) (map (share_of catalog instance) select.conjuncts))) ts) (reads_of_shares select.conjuncts t)
          ∙ ap (λ l. inner_reads catalog instance select.conjuncts t ∷ l) (same_reads ts)

-- ---- the joins

first_kept : (s : Stack) (first : List Condition) → AllByRecursion (λ (c : Condition). level_in c.expr ≤ length s) first → all_kept first s ≡ true → AreKept s first
first_kept s [] h k = tt
first_kept s (c ∷ cs) h k = let two = and_parts (is_kept s c.expr) (all_kept cs s) k in ((two.0, h.0), first_kept s cs h.1 two.1)

pub joins_within : (catalog : Catalog) (instance : InstanceRows) → MeetsTypes catalog instance → (select : Select) (outer reach : List Reached)
    → select_is_sound catalog select (items_in (placed outer)) ≡ true
    → AreBelow (length outer) (placed outer) → placed reach ≡ reach_under select.from (placed outer)
    → (sorted : Sorted) (end joined stages : List Stage) → stages ≡ joined ++ v.Keep sorted.first ∷ []
    → ((s : Stack) → length s ≡ length outer → visits instance joined s ≡ chain_visits instance sorted.legs.items (visits instance end) s)
    → IsEndWithin catalog instance select.conjuncts (placed reach) end
    → length outer + length sorted.legs.items < 2 ^ 64 - 1 → IsSorted (length outer) sorted.first sorted.legs.items
    → leg_tables sorted.legs.items ≡ map (table_place_of catalog) select.from → SortsAll catalog (placed reach) (conditions_in select.from select.conjuncts) sorted
    → IsWithin catalog instance select (placed outer) stages
joins_within catalog instance meets select outer reach sound below same sorted end joined stages is join ends small in_order tables all = λ s long typed.
    let o = placed outer in
    let long_outer : length s ≡ length outer = long ∙ placed_long outer in
    let parts = sound_parts catalog select (items_in o) sound in
    let conditions = conditions_in select.from select.conjuncts in
    subst (λ n. n ≤ select_reads catalog instance select (tuple_of o s)) (sym (visits-Keep instance s stages sorted.first joined is))
    (subst (λ n. cond (all_kept sorted.first s) (visits instance joined s) 0 ≤ n) (sym (select_most catalog instance select (tuple_of o s)))
    (if_first (all_kept sorted.first s) (visits instance joined s) _ (λ first_true.
    subst (λ n. n ≤ most catalog instance meets select.from conditions o (tuple_of o s) typed parts.differ (placed_below) parts.conditions (visits instance end)
    (inner_reads catalog instance select.conjuncts) (ends_there) [] select.from) (sym (join s long_outer))
    (chain_bounded catalog instance meets select.from conditions o (tuple_of o s) typed parts.differ placed_below parts.conditions (visits instance end)
    (inner_reads catalog instance select.conjuncts) ends_there
    select.from [] sorted.legs.items sorted.first s refl (legs_rows catalog instance sorted.legs.items select.from tables)
    (record { long = omega (arith, long); around_is = refl; typed = tt })
    (subst (λ n. n + length sorted.legs.items < 2 ^ 64 - 1) (sym long_outer) small)
    (first_kept s sorted.first (subst (λ n. AllByRecursion (λ (c : Condition). level_in c.expr ≤ n) sorted.first) (sym long_outer) in_order.first) first_true)
    (subst (λ n. AreDecidedAt n sorted.legs.items) (sym long_outer) in_order.legs)
    (subst (λ r. SortsAll catalog r conditions sorted) same all)))))
  where
    placed_below : AreBelow (length (placed outer)) (placed outer)
    placed_below = subst (λ n. AreBelow n (placed outer)) (sym (placed_long outer)) below

    ends_there : IsEndWithin catalog instance select.conjuncts (reach_under select.from (placed outer)) end
    ends_there = subst (λ r. IsEndWithin catalog instance select.conjuncts r end) same ends

    if_first : (b : Bool) (n m : ℕ) → (b ≡ true → n ≤ m) → cond b n 0 ≤ m
    if_first true n m h = h refl
    if_first false n m h = omega arith

-- the tables of the legs are those of the items
pub legs_read : (catalog : Catalog) (instance : InstanceRows) (legs : List Leg) (items : List FromItem) → leg_tables legs ≡ map (table_place_of catalog) items
    → rows_of_legs instance legs ≡ rows_in catalog instance (item_tables items)
legs_read catalog instance legs items e =
    ap sum (sym (map_map (λ n. length (rows_at instance n)) (λ (leg : Leg). leg.table) legs) ∙ ap (map (λ n. length (rows_at instance n))) e
    ∙ map_map (λ n. length (rows_at instance n)) (table_place_of catalog) items
    ∙ sym (map_map (λ table. length (rows_of catalog instance table)) (λ (item : FromItem). item.table) items))

-- ---- the end

module _ (catalog : Catalog) (instance : InstanceRows) (reach : List Placed) where
  reads_more : (all : List Conjunct) (i : ℕ) (x : Conjunct) → i < length all → x ≡ get_or all i x → (tuple : Tuple)
      → inner_reads catalog instance (take (i + 1) all) tuple ≡ inner_reads catalog instance (take i all) tuple + (share_of catalog instance x).reads tuple
  reads_more all i x h is tuple =
      let f = λ (c : Conjunct). (share_of catalog instance c).reads tuple in
      let front = sum_total f (take i all) in
      let split = total_append f (take i all) (get_or all i x ∷ []) in
      let whole : inner_reads catalog instance (take (i + 1) all) tuple ≡ total f (take i all ++ get_or all i x ∷ []) = ap (λ l. sum (map f l)) (take_more all i x h)
      ∙ sum_total f (take i all ++ get_or all i x ∷ []) in
      let same : f x ≡ f (get_or all i x) = ap f is in
      omega (arith, front, split, whole, same)

  pub within_none : (stages : List Stage) → stages ≡ [] → IsEndWithin catalog instance [] reach stages
  within_none stages is = λ s long typed. let none = visits-none instance s stages is in omega (arith, none)

  pub within_plain : (all : List Conjunct) (i : ℕ) (x : Conjunct) (stages : List Stage) → i < length all → x ≡ get_or all i x → IsEndWithin catalog instance (take i all) reach
      stages
      → IsEndWithin catalog instance (take (i + 1) all) reach stages
  within_plain all i x stages h is each = λ s long typed.
      let least = each s long typed in
      let more = reads_more all i x h is (tuple_of reach s) in
      omega (arith, least, more)

  pub within_absent : (all : List Conjunct) (i : ℕ) (x : Conjunct) (select : Select) (inner end stages : List Stage) → i < length all → x ≡ get_or all i x → x ≡ cv.NotExists select
      → stages ≡ end ++ v.Absent inner ∷ [] → IsWithin catalog instance select reach inner → IsEndWithin catalog instance (take i all) reach end
      → IsEndWithin catalog instance (take (i + 1) all) reach stages
  within_absent all i x select inner end stages h is not_exists made within each = λ s long typed.
      let first = within s long typed in
      let second = each s long typed in
      let more = reads_more all i x h is (tuple_of reach s) in
      let share : (share_of catalog instance x).reads (tuple_of reach s) ≡ select_reads catalog instance select (tuple_of reach s) =
      ap (λ (c : Conjunct). (share_of catalog instance c).reads (tuple_of reach s)) not_exists
      ∙ ap (λ (p : Share). p.reads (tuple_of reach s)) (at_not_exists Share (Tuple → ℕ) share_step (reads_step catalog instance) select) in
      let both = visits-Absent instance s stages inner end made in
      omega (arith, first, second, more, share, both)

-- ---- the tables

abbrev pub tables_of_conjunct : Conjunct → List (List ℕ)
tables_of_conjunct conjunct = inner_tables (conjunct ∷ [])

rows_append : (catalog : Catalog) (instance : InstanceRows) (xs ys : List (List ℕ)) → rows_in catalog instance (xs ++ ys)
    ≡ rows_in catalog instance xs + rows_in catalog instance ys
rows_append catalog instance xs ys =
    let f = λ (table : List ℕ). length (rows_of catalog instance table) in
    let whole = sum_total f (xs ++ ys) in
    let split = total_append f xs ys in
    let one = sum_total f xs in
    let two = sum_total f ys in
    omega (arith, whole, split, one, two)

-- the tables of a select are those of its items and of its inner selects
pub tables_parts : (catalog : Catalog) (instance : InstanceRows) (select : Select) → rows_in catalog instance (tables_in select)
    ≡ rows_in catalog instance (item_tables select.from) + rows_in catalog instance (inner_tables select.conjuncts)
tables_parts catalog instance select =
    ap (rows_in catalog instance) (at_select (List (List ℕ)) (List (List ℕ)) table_step tables_step select ∙ ap (λ l. item_tables select.from ++ l) (flat_mapped select.conjuncts))
    ∙ rows_append catalog instance (item_tables select.from) (inner_tables select.conjuncts)
  where
    flat_mapped : (cs : List Conjunct) → flat_map (λ tables. tables) (map (fold-Conjunct (List (List ℕ)) (List (List ℕ)) table_step tables_step) cs) ≡ inner_tables cs
    flat_mapped [] = refl
    flat_mapped (c ∷ cs) = ap (λ l. fold-Conjunct (List (List ℕ)) (List (List ℕ)) table_step tables_step c ++ l) (flat_mapped cs)

pub tables_more : (catalog : Catalog) (instance : InstanceRows) (all : List Conjunct) (i : ℕ) (x : Conjunct) → i < length all → x ≡ get_or all i x
    → rows_in catalog instance (inner_tables (take (i + 1) all)) ≡ rows_in catalog instance (inner_tables (take i all)) + rows_in catalog instance (tables_of_conjunct x)
tables_more catalog instance all i x h is =
    ap (λ l. rows_in catalog instance (inner_tables l)) (take_more all i x h)
    ∙ ap (rows_in catalog instance) (flat_map-append (fold-Conjunct (List (List ℕ)) (List (List ℕ)) table_step tables_step) (take i all) (get_or all i x ∷ []))
    ∙ rows_append catalog instance (inner_tables (take i all)) (inner_tables (get_or all i x ∷ []))
    ∙ ap (λ (c : Conjunct). rows_in catalog instance (inner_tables (take i all)) + rows_in catalog instance (tables_of_conjunct c)) (sym is)

pub tables_absent : (x : Conjunct) (select : Select) → x ≡ cv.NotExists select → tables_of_conjunct x ≡ tables_in select
tables_absent x select is =
    ap tables_of_conjunct is ∙ append-nil _ ∙ at_not_exists (List (List ℕ)) (List (List ℕ)) table_step tables_step select

-- the first conjuncts have no more tables than all
pub tables_front : (catalog : Catalog) (instance : InstanceRows) (all : List Conjunct) (n : ℕ)
    → rows_in catalog instance (inner_tables (take n all)) ≤ rows_in catalog instance (inner_tables all)
tables_front catalog instance [] zero = omega arith
tables_front catalog instance [] (suc n) = omega arith
tables_front catalog instance (x ∷ all) zero = omega arith
tables_front catalog instance (x ∷ all) (suc n) =
    let t = fold-Conjunct (List (List ℕ)) (List (List ℕ)) table_step tables_step x in
    let front = rows_append catalog instance t (inner_tables (take n all)) in
    let whole = rows_append catalog instance t (inner_tables all) in
    let later = tables_front catalog instance all n in
    omega (arith, front, whole, later)
