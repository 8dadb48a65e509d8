-- The stages of a select, step by step.
use Rattle.std.proofs.Common.{◌≡◌, ℕ, suc, zero, ◌+◌, ◌-◌, ◌<◌, ◌≤◌, ◌^◌, cond, ◌&&◌, Bool, true, false, List, [], ◌∷◌, ◌++◌, map, take, length, get_or, refl, sym, ap, subst}
use Rattle.std.proofs.Common.{◌∙◌, arith}
use Rattle.std.specs.Prelude.{is_some}
use Rattle.std.specs.List.{list_all, AllByRecursion}
use Rattle.std.proofs.lemmas.Bool.{and_parts}
use Rattle.std.proofs.lemmas.List.{take_more}
use Rattle.std.proofs.lemmas.List.Folds.{list_all-append}
use Rattle.pgq_base.specs.Instances.{InstanceRows, rows_at}
use Rattle.graph_ast.specs.declared.catalog.Catalog.{Catalog}
use Rattle.expr_tree.specs.declared.tree.Expr.{Expr}
use Rattle.sql_algebra.specs.declared.tree.ColumnLeaf.{ColumnLeaf}
use Rattle.sql_algebra.specs.declared.tree.FromItem.{FromItem}
use Rattle.sql_algebra.specs.declared.tree.Select.{Select}
use Rattle.sql_algebra.specs.declared.tree.Conjunct.{Conjunct, Conjunct-F, out-Conjunct, out-roll-Conjunct}
use Rattle.sql_algebra.specs.declared.tree.Conjunct.TheVariants as cv
use Rattle.sql_algebra.specs.Catalogs.{table_named}
use Rattle.sql_algebra.specs.Tuples.{Tuple}
use Rattle.sql_algebra.specs.Meaning as m
use Rattle.sql_algebra.specs.Meaning.{has_none, select_rows}
use Rattle.sql_algebra.specs.Soundness.{select_is_sound}
use Rattle.sql_algebra.proofs.Folds.{conjunct_is_sound, select_means, not_exists_sound}
use Rattle.row_eval.specs.declared.index.Index.{Index}
use Rattle.row_eval.specs.declared.legs.Leg.{Leg}
use Rattle.row_eval.specs.declared.scope.Reached.{Reached}
use Rattle.row_eval.specs.declared.sorting.Sorted.{Sorted}
use Rattle.row_eval.specs.declared.stage.Stage.{Stage}
use Rattle.row_eval.specs.declared.stage.Stage.TheVariants as v
use Rattle.row_eval.specs.Slots.{Stack}
use Rattle.row_eval.specs.Stages.{all_kept, found, accesses}
use Rattle.row_eval.specs.Joins.{chain_found}
use Rattle.row_eval.specs.Served.{AllServed, IsServed}
use Rattle.row_eval.specs.Scopes.{Placed, placed, own_places, reach_under, AreBelow, tuple_of}
use Rattle.row_eval.specs.Sorted.{IsSorted, IsNarrow, SortsAll, table_place_of, leg_tables}
use Rattle.row_eval.specs.Typed.{MeetsTypes, IsTyped}
use Rattle.row_eval.specs.Plans.{items_in, conditions_in, is_absent_at, all_absent, kept_by, IsEndOf, IsPlanOf}
use Rattle.row_eval.proofs.PlanLemmas.{sound_parts, reach_items, reach_long, select_found}
use Rattle.row_eval.proofs.SortLemmas.{known_place}
use Rattle.row_eval.proofs.StageLemmas.{found-Keep, found-Absent, found-none, accesses-Absent}
use Rattle.row_eval.proofs.TupleLemmas.{tables_of, map_map}
use Rattle.row_eval.proofs.TypedLemmas.{all_both}

-- ---- the tables of the legs

legs_same : (legs : List Leg) (items : List FromItem) (catalog : Catalog) → leg_tables legs ≡ map (table_place_of catalog) items → length legs ≡ length items
legs_same legs items catalog e = sym (one legs) ∙ ap length e ∙ two items
  where
    one : (legs : List Leg) → length (leg_tables legs) ≡ length legs
    one [] = refl
    one (leg ∷ legs) = ap suc (one legs)

    two : (items : List FromItem) → length (map (table_place_of catalog) items) ≡ length items
    two [] = refl
    two (item ∷ items) = ap suc (two items)

pub legs_long : (catalog : Catalog) (legs : List Leg) (items : List FromItem) → leg_tables legs ≡ map (table_place_of catalog) items → length legs ≡ length items
legs_long catalog legs items e = legs_same legs items catalog e

pub legs_rows : (catalog : Catalog) (instance : InstanceRows) (legs : List Leg) (items : List FromItem) → leg_tables legs ≡ map (table_place_of catalog) items
    → map (λ (leg : Leg). rows_at instance leg.table) legs ≡ tables_of catalog instance items
legs_rows catalog instance legs items e =
    sym (map_map (rows_at instance) (λ (leg : Leg). leg.table) legs) ∙ ap (map (rows_at instance)) e ∙ map_map (rows_at instance) (table_place_of catalog) items

places_within : (catalog : Catalog) (items : List FromItem) → list_all (λ (item : FromItem). is_some (table_named catalog item.table)) items ≡ true
    → AllByRecursion (λ n. n < length catalog.tables) (map (table_place_of catalog) items)
places_within catalog [] h = tt
places_within catalog (item ∷ items) h =
    let two = and_parts (is_some (table_named catalog item.table)) (list_all (λ (item : FromItem). is_some (table_named catalog item.table)) items) h in
    (known_place catalog item two.0, places_within catalog items two.1)

each_leg : (n k : ℕ) → n ≡ k → (legs : List Leg) → AllByRecursion (λ t. t < n) (leg_tables legs) → AllByRecursion (λ (leg : Leg). leg.table < k) legs
each_leg n k e [] h = tt
each_leg n k e (leg ∷ legs) h = (let one = h.0 in omega (arith, one, e), each_leg n k e legs h.1)

pub legs_within : (catalog : Catalog) (instance : InstanceRows) → MeetsTypes catalog instance → (select : Select) (outer : List Placed)
    → select_is_sound catalog select (items_in outer) ≡ true
    → (legs : List Leg) → leg_tables legs ≡ map (table_place_of catalog) select.from → AllByRecursion (λ (leg : Leg). leg.table < length instance) legs
legs_within catalog instance meets select outer sound legs e =
    each_leg (length catalog.tables) (length instance) (sym meets.tables) legs
    (subst (AllByRecursion (λ n. n < length catalog.tables)) (sym e) (places_within catalog select.from (sound_parts catalog select (items_in outer) sound).known))

-- ---- the reach

pub placed_long : (reach : List Reached) → length (placed reach) ≡ length reach
placed_long [] = refl
placed_long (r ∷ reach) = ap suc (placed_long reach)

pub reach_size : (reach : List Reached) (items : List FromItem) (outer : List Reached) → placed reach ≡ reach_under items (placed outer) → length reach
    ≡ length items + length outer
reach_size reach items outer e = sym (placed_long reach) ∙ ap length e ∙ reach_long items (placed outer) ∙ ap (λ n. length items + n) (placed_long outer)

pub own_below : (place n : ℕ) (items : List FromItem) → place + length items ≤ n → AreBelow n (own_places place items)
own_below place n [] h = tt
own_below place n (item ∷ items) h = (omega (arith, h), own_below (suc place) n items (omega (arith, h)))

higher : (n k : ℕ) → n ≤ k → (reach : List Placed) → AreBelow n reach → AreBelow k reach
higher n k h [] b = tt
higher n k h (r ∷ reach) b = (let one = b.0 in omega (arith, one, h), higher n k h reach b.1)

both_below : (n : ℕ) (xs ys : List Placed) → AreBelow n xs → AreBelow n ys → AreBelow n (xs ++ ys)
both_below n [] ys h k = k
both_below n (x ∷ xs) ys h k = (h.0, both_below n xs ys h.1 k)

pub under_below : (items : List FromItem) (outer : List Placed) → AreBelow (length outer) outer → AreBelow (length outer + length items) (reach_under items outer)
under_below items outer h =
    both_below (length outer + length items) (own_places (length outer) items) outer (own_below (length outer) (length outer + length items) items (omega arith))
    (higher (length outer) (length outer + length items) (omega arith) outer h)

pub reach_below : (reach : List Reached) (items : List FromItem) (outer : List Reached) → placed reach ≡ reach_under items (placed outer) → AreBelow (length outer) (placed outer)
    → AreBelow (length reach) (placed reach)
reach_below reach items outer e h =
    let size : length (placed outer) + length items ≡ length reach = omega (arith, reach_size reach items outer e, placed_long outer) in
    subst (λ n. AreBelow n (placed reach)) size
    (subst (AreBelow (length (placed outer) + length items)) (sym e) (under_below items (placed outer) (subst (λ n. AreBelow n (placed outer)) (sym (placed_long outer)) h)))

-- where the legs of the items are joined
pub legs_below : (reach : List Reached) (items : List FromItem) (outer : List Reached) → placed reach ≡ reach_under items (placed outer) → AreBelow (length outer) (placed outer)
    → AreBelow (length outer + length items) (placed reach)
legs_below reach items outer e h =
    let size : length reach ≡ length outer + length items = omega (arith, reach_size reach items outer e) in
    subst (λ n. AreBelow n (placed reach)) size (reach_below reach items outer e h)

-- ---- the joins

pub joins_plan : (catalog : Catalog) (instance : InstanceRows) → MeetsTypes catalog instance → (select : Select) (outer reach : List Reached)
    → select_is_sound catalog select (items_in (placed outer)) ≡ true
    → AreBelow (length outer) (placed outer) → placed reach ≡ reach_under select.from (placed outer)
    → (sorted : Sorted) (end joined stages : List Stage) → stages ≡ joined ++ v.Keep sorted.first ∷ []
    → ((s : Stack) → length s ≡ length outer → found instance joined s ≡ chain_found instance sorted.legs.items (found instance end) s)
    → IsEndOf catalog instance select.conjuncts (placed reach) end
    → length outer + length sorted.legs.items < 2 ^ 64 - 1 → IsSorted (length outer) sorted.first sorted.legs.items → IsNarrow (length outer) sorted
    → leg_tables sorted.legs.items ≡ map (table_place_of catalog) select.from → SortsAll catalog (placed reach) (conditions_in select.from select.conjuncts) sorted
    → IsPlanOf catalog instance select (placed outer) stages
joins_plan catalog instance meets select outer reach sound below same sorted end joined stages is join each_end small in_order narrow tables all = λ s long typed.
    let long_outer = long ∙ placed_long outer in
    ap (map (tuple_of (reach_under select.from (placed outer))))
    (found-Keep instance s stages sorted.first joined is ∙ ap (λ x. cond (all_kept sorted.first s) x []) (join s long_outer))
    ∙ select_found catalog instance meets select (placed outer) sound
    (subst (λ n. AreBelow n (placed outer)) (sym (placed_long outer)) below) s long typed sorted.first sorted.legs.items (found instance end)
    (subst (λ n. n + length sorted.legs.items < 2 ^ 64 - 1) (sym (placed_long outer)) small)
    (subst (λ n. IsSorted n sorted.first sorted.legs.items) (sym (placed_long outer)) in_order)
    (subst (λ n. IsNarrow n sorted) (sym (placed_long outer)) narrow)
    (legs_rows catalog instance sorted.legs.items select.from tables)
    (subst (λ r. SortsAll catalog r (conditions_in select.from select.conjuncts) sorted) same all)
    (subst (λ r. IsEndOf catalog instance select.conjuncts r end) same each_end)

pub inner_sound : (catalog : Catalog) (select : Select) (outer reach : List Reached) → select_is_sound catalog select (items_in (placed outer)) ≡ true
    → placed reach ≡ reach_under select.from (placed outer) → list_all (λ conjunct. conjunct (items_in (placed reach))) (map (conjunct_is_sound catalog) select.conjuncts) ≡ true
inner_sound catalog select outer reach sound same =
    subst (λ items. list_all (λ conjunct. conjunct items) (map (conjunct_is_sound catalog) select.conjuncts) ≡ true)
    (sym (ap items_in same ∙ reach_items select.from (placed outer))) (sound_parts catalog select (items_in (placed outer)) sound).conjuncts

-- ---- the end

none_mapped : {X Y : Type 0} (f : X → Y) (xs : List X) → has_none (map f xs) ≡ has_none xs
none_mapped f [] = refl
none_mapped f (x ∷ xs) = refl

-- an inner select finds nothing exactly where it has no row
inner_none : (catalog : Catalog) (instance : InstanceRows) (select : Select) (reach : List Placed) (stages : List Stage) → IsPlanOf catalog instance select reach stages
    → (s : Stack) → length s ≡ length reach → IsTyped catalog (tuple_of reach s) → has_none (found instance stages s)
    ≡ has_none (select_rows catalog instance select (tuple_of reach s))
inner_none catalog instance select reach stages plan s long typed =
    sym (none_mapped (tuple_of (reach_under select.from reach)) (found instance stages s)) ∙ ap has_none (plan s long typed)
    ∙ sym (none_mapped (m.output_row catalog select.columns) (kept_by catalog instance select (tuple_of reach s)))
    ∙ ap (λ f. has_none (f (tuple_of reach s))) (sym (select_means catalog instance select))

module _ (catalog : Catalog) (instance : InstanceRows) (reach : List Placed) where
  absent_more : (all : List Conjunct) (i : ℕ) (x : Conjunct) → i < length all → x ≡ get_or all i x → (tuple : Tuple)
      → all_absent catalog instance (take (i + 1) all) tuple ≡ (all_absent catalog instance (take i all) tuple && is_absent_at catalog instance tuple (out-Conjunct x))
  absent_more all i x h is tuple =
      ap (λ l. all_absent catalog instance l tuple) (take_more all i x h)
      ∙ list_all-append (λ conjunct. is_absent_at catalog instance tuple (out-Conjunct conjunct)) (take i all) (get_or all i x ∷ [])
      ∙ ap (λ b. all_absent catalog instance (take i all) tuple && b) (and_true (is_absent_at catalog instance tuple (out-Conjunct (get_or all i x))))
      ∙ ap (λ (y : Conjunct). all_absent catalog instance (take i all) tuple && is_absent_at catalog instance tuple (out-Conjunct y)) (sym is)
    where
      and_true : (b : Bool) → (b && true) ≡ b
      and_true true = refl
      and_true false = refl

  pub end_none : (stages : List Stage) → stages ≡ [] → IsEndOf catalog instance [] reach stages
  end_none stages is = λ s long typed. found-none instance s stages is

  pub end_plain : (all : List Conjunct) (i : ℕ) (x : Conjunct) (e : Expr ColumnLeaf) (stages : List Stage) → i < length all → x ≡ get_or all i x → x ≡ cv.Plain e
      → IsEndOf catalog instance (take i all) reach stages → IsEndOf catalog instance (take (i + 1) all) reach stages
  end_plain all i x e stages h is plain each = λ s long typed.
      each s long typed
      ∙ ap (λ b. cond b (s ∷ []) []) (same (all_absent catalog instance (take i all) (tuple_of reach s)) (tuple_of reach s) ∙ sym (absent_more all i x h is (tuple_of reach s)))
    where
      same : (b : Bool) (tuple : Tuple) → b ≡ (b && is_absent_at catalog instance tuple (out-Conjunct x))
      same b tuple = and_true b ∙ ap (λ y. b && is_absent_at catalog instance tuple y)
          (sym (ap out-Conjunct (plain ∙ sym (cv.rolls-Plain e)) ∙ out-roll-Conjunct (Conjunct-F.Plain e)))
        where
          and_true : (b : Bool) → b ≡ (b && true)
          and_true true = refl
          and_true false = refl

  pub end_absent : (all : List Conjunct) (i : ℕ) (x : Conjunct) (select : Select) (inner end stages : List Stage) → i < length all → x ≡ get_or all i x → x ≡ cv.NotExists select
      → stages ≡ end ++ v.Absent inner ∷ [] → IsPlanOf catalog instance select reach inner
      → IsEndOf catalog instance (take i all) reach end → IsEndOf catalog instance (take (i + 1) all) reach stages
  end_absent all i x select inner end stages h is not_exists made plan each = λ s long typed.
      let tuple = tuple_of reach s in
      let none = has_none (select_rows catalog instance select tuple) in
      found-Absent instance s stages inner end made
      ∙ ap (λ b. cond b (found instance end s) []) (inner_none catalog instance select reach inner plan s long typed)
      ∙ ap (λ l. cond none l []) (each s long typed)
      ∙ turned none (all_absent catalog instance (take i all) tuple) s
      ∙ ap (λ b. cond b (s ∷ []) [])
      (ap (λ y. all_absent catalog instance (take i all) tuple && is_absent_at catalog instance tuple y)
      (sym (ap out-Conjunct (not_exists ∙ sym (cv.rolls-NotExists select)) ∙ out-roll-Conjunct (Conjunct-F.NotExists select)))
      ∙ sym (absent_more all i x h is tuple))
    where
      turned : (a b : Bool) (s : Stack) → cond a (cond b (s ∷ []) []) [] ≡ cond (b && a) (s ∷ []) []
      turned true true s = refl
      turned true false s = refl
      turned false true s = refl
      turned false false s = refl

-- the inner select of a conjunct is sound
pub conjunct_sound : (catalog : Catalog) (items : List FromItem) (all : List Conjunct) (i : ℕ) (x : Conjunct) (select : Select) → i < length all → x ≡ get_or all i x → x
    ≡ cv.NotExists select
    → list_all (λ conjunct. conjunct items) (map (conjunct_is_sound catalog) all) ≡ true → select_is_sound catalog select items ≡ true
conjunct_sound catalog items [] i x select h is not_exists all = absurd (omega arith)
conjunct_sound catalog items (c ∷ cs) zero x select h is not_exists all =
    sym (ap (λ f. f items) (not_exists_sound catalog select)) ∙ ap (λ y. conjunct_is_sound catalog y items) (sym not_exists ∙ is)
    ∙ (and_parts (conjunct_is_sound catalog c items) (list_all (λ conjunct. conjunct items) (map (conjunct_is_sound catalog) cs)) all).0
conjunct_sound catalog items (c ∷ cs) (suc i) x select h is not_exists all =
    conjunct_sound catalog items cs i x select (omega arith) is not_exists
    (and_parts (conjunct_is_sound catalog c items) (list_all (λ conjunct. conjunct items) (map (conjunct_is_sound catalog) cs)) all).1

pub absent_served : (instance : InstanceRows) (indexes : List Index) (inner end stages : List Stage) → stages ≡ end ++ v.Absent inner ∷ [] → AllServed instance indexes
    (accesses inner)
    → AllServed instance indexes (accesses end)
    → AllServed instance indexes (accesses stages)
absent_served instance indexes inner end stages is one two =
    subst (AllServed instance indexes) (sym (accesses-Absent stages inner end is)) (all_both (IsServed instance indexes) (accesses end) (accesses inner) two one)
