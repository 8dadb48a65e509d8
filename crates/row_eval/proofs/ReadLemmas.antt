-- What a chain of joins reads is no more than the partial tuples of its select, and what is read behind the full ones.
use Rattle.std.proofs.Common.{◌≡◌, ℕ, suc, ◌+◌, ◌-◌, ◌<◌, ◌≤◌, ◌^◌, cond, ◌&&◌, Bool, true, false, List, [], ◌∷◌, ◌++◌, map, length, get_or, refl, sym, ap, subst, ◌∙◌, arith}
use Rattle.std.proofs.Common.{append_assoc, Option, Some, None}
use Rattle.std.specs.Prelude.{filter, is_some, nat_le}
use Rattle.std.specs.List.{list_all, AllByRecursion}
use Rattle.std.proofs.Math.Seq.{get_or-append_seam}
use Rattle.std.proofs.lemmas.Bool.{and_parts}
use Rattle.std.proofs.lemmas.Bool.Decides.{nat_tests}
use Rattle.std.proofs.lemmas.List.{append-nil, map-append, length-append}
use Rattle.std.proofs.lemmas.List.Folds.{list_all-append}
use Rattle.pgq_base.specs.Instances.{RowValues, InstanceRows, rows_at}
use Rattle.expr_tree.specs.declared.tree.Expr.{Expr}
use Rattle.expr_tree.specs.Mapping.{mapped}
use Rattle.graph_ast.specs.declared.catalog.Catalog.{Catalog}
use Rattle.sql_algebra.specs.declared.tree.FromItem.{FromItem}
use Rattle.sql_algebra.specs.declared.tree.ColumnLeaf.{ColumnLeaf}
use Rattle.sql_algebra.specs.Catalogs.{rows_of}
use Rattle.sql_algebra.specs.RowReads.{LeafPair, equality_of, stands_in, pair_stands_in, decided_by, agrees}
use Rattle.sql_algebra.specs.Soundness.{condition_is_sound}
use Rattle.sql_algebra.specs.Tuples.{Bound, Tuple, holds}
use Rattle.row_eval.specs.declared.frame.Slot.{Slot}
use Rattle.row_eval.specs.declared.frame.Condition.{Condition}
use Rattle.row_eval.specs.declared.legs.Leg.{Leg}
use Rattle.row_eval.specs.Joins.{chain_visits}
use Rattle.row_eval.specs.Levels.{level_in}
use Rattle.row_eval.specs.Plans.{items_in}
use Rattle.row_eval.specs.Scopes.{Placed, own_places, reach_under, AreBelow, tuple_of, leaf_expr_of}
use Rattle.row_eval.specs.Slots.{Stack, is_kept}
use Rattle.row_eval.specs.Sorted.{each_passes, AreDecidedAt}
use Rattle.row_eval.specs.Stages.{all_kept}
use Rattle.row_eval.specs.Access.{ways_agree}
use Rattle.row_eval.specs.Ties.{slots_of, ties_hold}
use Rattle.row_eval.specs.Typed.{MeetsTypes, IsTyped, IsTypedRow}
use Rattle.row_eval.proofs.BoundLemmas.{kept_means, has_slots, decided_level, passes, kept_passes, legs_pass, ties_pass}
use Rattle.row_eval.proofs.ChainReach.{Differ, both_true}
use Rattle.row_eval.proofs.EqualityForms.{equality_form}
use Rattle.row_eval.proofs.LevelLemmas.{decided}
use Rattle.row_eval.proofs.PartialLemmas.{total_behind, behind_none, behind_next, one_if_agrees, partials, partials_next, if_kept}
use Rattle.row_eval.proofs.PlanLemmas.{all_mean, reach_items, reach_long}
use Rattle.row_eval.proofs.PlannerLemmas.{own_below, under_below}
use Rattle.row_eval.proofs.PoppedLemmas.{stack_longer}
use Rattle.row_eval.proofs.Totals.{total, sum_total, total_least, total_both, total_filter}
use Rattle.row_eval.proofs.TupleLemmas.{tables_of, bound_at, below_same}
use Rattle.row_eval.proofs.TypedLemmas.{typed_row, all_both}

-- ---- the equalities that a partial tuple decides are True of it

module _ (catalog : Catalog) (done later : List FromItem) (outer : List Placed) (differ : Differ (items_in outer) (done ++ later)) (below : AreBelow (length outer) outer)
    (place : ℕ) (size : suc place ≡ length outer + length done) (t : Stack) (typed : IsTyped catalog (tuple_of (reach_under done outer) t)) where
  abbrev made : Expr ColumnLeaf → Expr Slot
  made e = mapped (leaf_expr_of catalog (reach_under (done ++ later) outer)) e

  abbrev tuple : Tuple
  tuple = tuple_of (reach_under done outer) t

  one_holds : (e : Expr ColumnLeaf) (pair : LeafPair) → equality_of e ≡ Some pair → (stands_in tuple pair.left && stands_in tuple pair.right) ≡ true
      → condition_is_sound catalog ((done ++ later) ++ items_in outer) e ≡ true → passes place t (made e) ≡ true → holds catalog tuple e ≡ true
  one_holds e pair is stand sound pass =
      let form = equality_form e pair is in
      let two = and_parts (stands_in tuple pair.left) (stands_in tuple pair.right) stand in
      let level : level_in (made e) ≤ suc place = subst (λ n. level_in (made e) ≤ n) (sym size)
      (decided_level catalog done later outer differ t typed e pair form two.0 two.1 (length outer + length done) (under_below done outer below)) in
      let test : (nat_le (level_in (made e)) (suc place) && is_some (slots_of (made e))) ≡ true =
      both_true (nat_le (level_in (made e)) (suc place)) _ (up_to (level_in (made e)) (suc place) level)
      (has_slots catalog done later outer differ t typed e pair form two.0 two.1) in
      sym (kept_means catalog done later outer differ t typed e pair form two.0 two.1 sound) ∙ sym (ap (λ b. cond b (is_kept t (made e)) true) test) ∙ pass
    where
      up_to : (a b : ℕ) → a ≤ b → nat_le a b ≡ true
      up_to a b h = grind (arith, nat_tests)

  pub agrees_there : (conditions : List (Expr ColumnLeaf)) → list_all (condition_is_sound catalog ((done ++ later) ++ items_in outer)) conditions ≡ true
      → list_all (λ e. passes place t (made e)) conditions ≡ true → agrees catalog conditions tuple ≡ true
  agrees_there [] sound pass = refl
  agrees_there (e ∷ es) sound pass =
      let a = and_parts (condition_is_sound catalog ((done ++ later) ++ items_in outer) e) (list_all (condition_is_sound catalog ((done ++ later) ++ items_in outer)) es) sound in
      let b = and_parts (passes place t (made e)) (list_all (λ e. passes place t (made e)) es) pass in
      by (equality_of e) refl a.0 b.0 (agrees_there es a.1 b.1)
    where
      by : (o : Option LeafPair) → equality_of e ≡ o → condition_is_sound catalog ((done ++ later) ++ items_in outer) e ≡ true → passes place t (made e) ≡ true
          → agrees catalog es tuple ≡ true
          → agrees catalog (e ∷ es) tuple ≡ true
      by None is sound pass rest = ap (λ o. list_all (holds catalog tuple) (cond (pair_stands_in tuple o) (e ∷ decided_by tuple es) (decided_by tuple es))) is ∙ rest
      by (Some pair) is sound pass rest = go (pair_stands_in tuple (Some pair)) refl
        where
          go : (b : Bool) → pair_stands_in tuple (Some pair) ≡ b → agrees catalog (e ∷ es) tuple ≡ true
          go false off = ap (λ o. list_all (holds catalog tuple) (cond (pair_stands_in tuple o) (e ∷ decided_by tuple es) (decided_by tuple es))) is
              ∙ ap (λ b. list_all (holds catalog tuple) (cond b (e ∷ decided_by tuple es) (decided_by tuple es))) off ∙ rest
          go true on = ap (λ o. list_all (holds catalog tuple) (cond (pair_stands_in tuple o) (e ∷ decided_by tuple es) (decided_by tuple es))) is
              ∙ ap (λ b. list_all (holds catalog tuple) (cond b (e ∷ decided_by tuple es) (decided_by tuple es))) on
              ∙ both_true (holds catalog tuple e) _ (one_holds e pair is on sound pass) rest

-- ---- conditions that are tested already

-- each is True of the stack, which decides it
abbrev pub AreKept : Stack → List Condition → Type 0
AreKept s conditions = AllByRecursion (λ (c : Condition). (is_kept s c.expr ≡ true) × (level_in c.expr ≤ length s)) conditions

still_kept : (s : Stack) (row : RowValues) (conditions : List Condition) → length s < 2 ^ 64 - 1 → AreKept s conditions → AreKept (s ++ row ∷ []) conditions
still_kept s row [] small h = tt
still_kept s row (c ∷ cs) small h =
    let long = stack_longer s row in
    let level = h.0.1 in
    ((decided s (row ∷ []) c.expr small level ∙ h.0.0, omega (arith, level, long)), still_kept s row cs small h.1)

kept_now : (s : Stack) (row : RowValues) (tests : List Condition) → AllByRecursion (λ (c : Condition). level_in c.expr ≡ suc (length s)) tests → all_kept tests (s ++ row ∷ [])
    ≡ true → AreKept (s ++ row ∷ []) tests
kept_now s row [] h k = tt
kept_now s row (c ∷ cs) h k =
    let two = and_parts (is_kept (s ++ row ∷ []) c.expr) (all_kept cs (s ++ row ∷ [])) k in
    let long = stack_longer s row in
    let level = h.0 in
    ((two.0, omega (arith, level, long)), kept_now s row cs h.1 two.1)

both_kept : (s : Stack) (xs ys : List Condition) → AreKept s xs → AreKept s ys → AreKept s (xs ++ ys)
both_kept s [] ys h k = k
both_kept s (x ∷ xs) ys h k = (h.0, both_kept s xs ys h.1 k)

kept_true : (s : Stack) (conditions : List Condition) → AreKept s conditions → each_passes (is_kept s) conditions ≡ true
kept_true s [] h = refl
kept_true s (c ∷ cs) h = both_true (is_kept s c.expr) _ h.0.0 (kept_true s cs h.1)

kept_pass : (place : ℕ) (s : Stack) (row : RowValues) (conditions : List Condition) → length s < 2 ^ 64 - 1 → AreKept s conditions
    → each_passes (passes place (s ++ row ∷ [])) conditions ≡ true
kept_pass place s row [] small h = refl
kept_pass place s row (c ∷ cs) small h =
    both_true (passes place (s ++ row ∷ []) c.expr) _ (kept_passes place (s ++ row ∷ []) c.expr (decided s (row ∷ []) c.expr small h.0.1 ∙ h.0.0))
    (kept_pass place s row cs small h.1)

-- ---- the rows of the items that are done

own_more : (place : ℕ) (xs ys : List FromItem) → own_places place (xs ++ ys) ≡ own_places place xs ++ own_places (place + length xs) ys
own_more place [] ys = ap (λ n. own_places n ys) (omega arith)
own_more place (x ∷ xs) ys =
    ap (λ (l : List Placed). let r : Placed = record { item = x; place = place } in r ∷ l)
    (own_more (suc place) xs ys ∙ ap (λ n. own_places (suc place) xs ++ own_places n ys) (omega arith))

-- ---- the chain

module _ (catalog : Catalog) (instance : InstanceRows) (meets : MeetsTypes catalog instance) (from : List FromItem) (conditions : List (Expr ColumnLeaf)) (outer : List Placed)
    (around : Tuple)
    (typed_around : IsTyped catalog around) (differ : Differ (items_in outer) from) (below : AreBelow (length outer) outer)
    (sound : list_all (condition_is_sound catalog (from ++ items_in outer)) conditions ≡ true) (end : Stack → ℕ) (behind : Tuple → ℕ)
    (ends : (t : Stack) → length t ≡ length (reach_under from outer) → IsTyped catalog (tuple_of (reach_under from outer) t)
    → end t ≤ behind (tuple_of (reach_under from outer) t)) where
  abbrev own_tuple : List FromItem → Stack → Tuple
  own_tuple done s = tuple_of (own_places (length outer) done) s

  own_next : (done : List FromItem) (item : FromItem) (s : Stack) (row : RowValues) → length s ≡ length outer + length done → own_tuple (done ++ item ∷ []) (s ++ row ∷ [])
      ≡ own_tuple done s ++ bound_at item row ∷ []
  own_next done item s row long =
      ap (λ r. tuple_of r (s ++ row ∷ [])) (own_more (length outer) done (item ∷ []))
      ∙ map-append (λ (r : Placed). bound_at r.item (get_or (s ++ row ∷ []) r.place [])) (own_places (length outer) done) (own_places (length outer + length done) (item ∷ []))
      ∙ ap (λ l. l ++ bound_at item (get_or (s ++ row ∷ []) (length outer + length done) []) ∷ [])
      (below_same (own_places (length outer) done) s (row ∷ []) (own_below (length outer) (length s) done (omega (arith, long))))
      ∙ ap (λ n. own_tuple done s ++ bound_at item (get_or (s ++ row ∷ []) n []) ∷ []) (sym long)
      ∙ ap (λ r. own_tuple done s ++ bound_at item r ∷ []) (get_or-append_seam s row [] [])

  -- the rows around the chain, and those of the items that are done
  pub record IsThere (done : List FromItem) (s : Stack) : Type 0 where
    pub long : length s ≡ length outer + length done
    pub around_is : tuple_of outer s ≡ around
    pub typed : IsTyped catalog (own_tuple done s)

  there_tuple : (done : List FromItem) (s : Stack) → IsThere done s → tuple_of (reach_under done outer) s ≡ own_tuple done s ++ around
  there_tuple done s h = map-append (λ (r : Placed). bound_at r.item (get_or s r.place [])) (own_places (length outer) done) outer ∙ ap (λ t. own_tuple done s ++ t) h.around_is

  there_typed : (done : List FromItem) (s : Stack) → IsThere done s → IsTyped catalog (tuple_of (reach_under done outer) s)
  there_typed done s h = subst (IsTyped catalog) (sym (there_tuple done s h))
      (all_both (λ (b : Bound). IsTypedRow catalog b.item b.row) (own_tuple done s) around h.typed typed_around)

  there_next : (done : List FromItem) (item : FromItem) (s : Stack) (row : RowValues) → IsThere done s → IsTypedRow catalog item row → IsThere (done ++ item ∷ []) (s ++ row ∷ [])
  there_next done item s row h typed_row = record {
    long = (let one = h.long in omega (arith, one, stack_longer s row, length-append done (item ∷ [])));
    around_is = below_same outer s (row ∷ []) (higher (length outer) (length s) (let one = h.long in omega (arith, one)) outer below) ∙ h.around_is;
    typed = subst (IsTyped catalog) (sym (own_next done item s row h.long))
        (all_both (λ (b : Bound). IsTypedRow catalog b.item b.row) (own_tuple done s) (bound_at item row ∷ []) h.typed (typed_row, tt));
  }
    where
      higher : (n k : ℕ) → n ≤ k → (reach : List Placed) → AreBelow n reach → AreBelow k reach
      higher n k h [] b = tt
      higher n k h (r ∷ reach) b = (let one = b.0 in omega (arith, one, h), higher n k h reach b.1)

  abbrev Sorts : List Condition → List Leg → Type 0
  Sorts done legs = (test : Expr Slot → Bool) → (each_passes test done && list_all (λ (leg : Leg). each_passes test leg.tests) legs)
      ≡ list_all (λ e. test (mapped (leaf_expr_of catalog (reach_under from outer)) e)) conditions

  sorts_next : (done : List Condition) (leg : Leg) (legs : List Leg) → Sorts done (leg ∷ legs) → Sorts (done ++ leg.tests) legs
  sorts_next done leg legs h = λ test.
      ap (λ b. b && list_all (λ (leg : Leg). each_passes test leg.tests) legs) (list_all-append (λ (c : Condition). test c.expr) done leg.tests)
      ∙ and_assoc (each_passes test done) (each_passes test leg.tests) (list_all (λ (leg : Leg). each_passes test leg.tests) legs) ∙ h test
    where
      and_assoc : (x y z : Bool) → ((x && y) && z) ≡ (x && (y && z))
      and_assoc true y z = refl
      and_assoc false y z = refl

  -- a row whose ties hold gives a partial tuple
  tied_agrees : (done later : List FromItem) (item : FromItem) (s : Stack) (row : RowValues) (before : List Condition) (leg : Leg) (legs : List Leg) → done ++ (item ∷ later)
      ≡ from → IsThere done s
      → IsTypedRow catalog item row → suc (length s) < 2 ^ 64 - 1 → AreKept s before → AreDecidedAt (length s) (leg ∷ legs) → Sorts before (leg ∷ legs)
      → ties_hold (length s) s row leg.tests ≡ true
      → agrees catalog conditions ((own_tuple done s ++ bound_at item row ∷ []) ++ around) ≡ true
  tied_agrees done later item s row before leg legs whole h typed small kept levels sorts tied =
      let next = done ++ item ∷ [] in
      let t = s ++ row ∷ [] in
      let now = there_next done item s row h typed in
      let is : next ++ later ≡ from = append_assoc done (item ∷ []) later ∙ whole in
      let pass : list_all (λ e. passes (length s) t (mapped (leaf_expr_of catalog (reach_under from outer)) e)) conditions ≡ true =
      sym (sorts (passes (length s) t))
      ∙ both_true (each_passes (passes (length s) t) before) _ (kept_pass (length s) s row before (omega (arith, small)) kept)
      (both_true (each_passes (passes (length s) t) leg.tests) _ (ties_pass (length s) s row small leg.tests levels.0 tied)
      (legs_pass (length s) t (suc (length s)) (omega arith) legs levels.1)) in
      ap (agrees catalog conditions) (sym (there_tuple next t now ∙ ap (λ l. l ++ around) (own_next done item s row h.long)))
      ∙ agrees_there catalog next later outer (subst (Differ (items_in outer)) (sym is) differ) below (length s)
      (let one = h.long in omega (arith, one, length-append done (item ∷ []))) t (there_typed next t now) conditions
      (subst (λ f. list_all (condition_is_sound catalog (f ++ items_in outer)) conditions ≡ true) (sym is) sound)
      (subst (λ f. list_all (λ e. passes (length s) t (mapped (leaf_expr_of catalog (reach_under f outer)) e)) conditions ≡ true) (sym is) pass)

  abbrev pub most : Tuple → List FromItem → ℕ
  most before items = partials catalog instance around conditions before items + total_behind catalog instance around
      (if_kept catalog instance around conditions behind) before items

  most_next : (before : Tuple) (item : FromItem) (items : List FromItem) → most before (item ∷ items)
      ≡ total (λ row. (one_if_agrees catalog instance around conditions ((before ++ bound_at item row ∷ []) ++ around) + partials catalog instance around conditions
      (before ++ bound_at item row ∷ []) items)
      + total_behind catalog instance around (if_kept catalog instance around conditions behind) (before ++ bound_at item row ∷ []) items) (rows_of catalog instance item.table)
  most_next before item items =
      let rows = rows_of catalog instance item.table in
      let K = total_behind catalog instance around (if_kept catalog instance around conditions behind) in
      ap (λ n. n + K before (item ∷ items)) (partials_next catalog instance around conditions before item items)
      ∙ ap (λ n. total (λ row. one_if_agrees catalog instance around conditions ((before ++ bound_at item row ∷ []) ++ around) + partials catalog instance around conditions
      (before ++ bound_at item row ∷ []) items) rows + n)
      (behind_next catalog instance around (if_kept catalog instance around conditions behind) before item items)
      ∙ sym (total_both (λ row. one_if_agrees catalog instance around conditions ((before ++ bound_at item row ∷ []) ++ around) + partials catalog instance around conditions
      (before ++ bound_at item row ∷ []) items)
      (λ row. K (before ++ bound_at item row ∷ []) items) rows)

  -- the end of the chain
  at_end : (s : Stack) (before : List Condition) → IsThere from s → AreKept s before → Sorts before [] → end s ≤ most (own_tuple from s) []
  at_end s before h kept sorts =
      let whole = tuple_of (reach_under from outer) s in
      let is = there_tuple from s h in
      let typed = there_typed from s h in
      let all : list_all (holds catalog whole) conditions ≡ true =
      sym (all_mean catalog (reach_under from outer) s typed conditions
      (subst (λ items. list_all (condition_is_sound catalog items) conditions ≡ true) (sym (reach_items from outer)) sound))
      ∙ sym (sorts (is_kept s)) ∙ ap (λ b. b && true) (kept_true s before kept) in
      let long : length s ≡ length (reach_under from outer) = (let one = h.long in omega (arith, one, reach_long from outer)) in
      let least = ends s long typed in
      let same : total_behind catalog instance around (if_kept catalog instance around conditions behind) (own_tuple from s) [] ≡ behind whole =
      behind_none catalog instance around (if_kept catalog instance around conditions behind) (own_tuple from s)
      ∙ ap (if_kept catalog instance around conditions behind) (sym is) ∙ ap (λ b. cond b (behind whole) 0) all in
      omega (arith, least, same)

  pub chain_bounded : (items done : List FromItem) (legs : List Leg) (before : List Condition) (s : Stack) → done ++ items ≡ from
      → map (λ (leg : Leg). rows_at instance leg.table) legs ≡ tables_of catalog instance items → IsThere done s → length s + length legs < 2 ^ 64 - 1
      → AreKept s before → AreDecidedAt (length s) legs → Sorts before legs → chain_visits instance legs end s ≤ most (own_tuple done s) items
  chain_bounded [] done [] before s whole tables h small kept levels sorts =
      let is : done ≡ from = sym (append-nil done) ∙ whole in
      subst (λ d. end s ≤ most (own_tuple d s) []) (sym is) (at_end s before (subst (λ d. IsThere d s) is h) kept sorts)
  chain_bounded [] done (leg ∷ legs) before s whole tables h small kept levels sorts = absurd cc
  chain_bounded (item ∷ items) done [] before s whole tables h small kept levels sorts = absurd cc
  chain_bounded (item ∷ items) done (leg ∷ legs) before s whole tables h small kept levels sorts =
      let rest = chain_visits instance legs end in
      let ties = λ (row : RowValues). ties_hold (length s) s row leg.tests in
      let ways = λ (row : RowValues). ways_agree s row leg.ways in
      let rows : rows_at instance leg.table ≡ rows_of catalog instance item.table = cc in
      let others : map (λ (leg : Leg). rows_at instance leg.table) legs ≡ tables_of catalog instance items = cc in
      let read : chain_visits instance (leg ∷ legs) end s
      ≡ total (λ row. cond (ways row) (cond (ties row) (1 + cond (all_kept leg.tests (s ++ row ∷ [])) (rest (s ++ row ∷ [])) 0) 0) 0) (rows_of catalog instance item.table) =
      sum_total (λ row. 1 + cond (all_kept leg.tests (s ++ row ∷ [])) (rest (s ++ row ∷ [])) 0) (filter ties (filter ways (rows_at instance leg.table)))
      ∙ total_filter (λ row. 1 + cond (all_kept leg.tests (s ++ row ∷ [])) (rest (s ++ row ∷ [])) 0) ties (filter ways (rows_at instance leg.table))
      ∙ total_filter (λ row. cond (ties row) (1 + cond (all_kept leg.tests (s ++ row ∷ [])) (rest (s ++ row ∷ [])) 0) 0) ways (rows_at instance leg.table)
      ∙ ap (total (λ row. cond (ways row) (cond (ties row) (1 + cond (all_kept leg.tests (s ++ row ∷ [])) (rest (s ++ row ∷ [])) 0) 0) 0)) rows in
      subst (λ n. n ≤ most (own_tuple done s) (item ∷ items)) (sym read)
      (subst (λ n. total (λ row. cond (ways row) (cond (ties row) (1 + cond (all_kept leg.tests (s ++ row ∷ [])) (rest (s ++ row ∷ [])) 0) 0) 0)
      (rows_of catalog instance item.table) ≤ n)
      (sym (most_next (own_tuple done s) item items))
      (total_least _ _ (rows_of catalog instance item.table) (λ row in_table.
      let typed = typed_row catalog instance meets item row in_table in
      let small_now : suc (length s) < 2 ^ 64 - 1 = omega (arith, small) in
      at_row (own_tuple done s ++ bound_at item row ∷ []) (ways row) (ties row) (all_kept leg.tests (s ++ row ∷ [])) (rest (s ++ row ∷ []))
      (λ tied. tied_agrees done items item s row before leg legs whole h typed small_now kept levels sorts tied)
      (λ all. subst (λ t. rest (s ++ row ∷ []) ≤ most t items) (own_next done item s row h.long)
      (chain_bounded items (done ++ item ∷ []) legs (before ++ leg.tests) (s ++ row ∷ []) (append_assoc done (item ∷ []) items ∙ whole) others (there_next done item s row h typed)
      (omega (arith, small, stack_longer s row))
      (both_kept (s ++ row ∷ []) before leg.tests (still_kept s row before (omega (arith, small)) kept) (kept_now s row leg.tests levels.0 all))
      (subst (λ n. AreDecidedAt n legs) (sym (stack_longer s row)) levels.1) (sorts_next before leg legs sorts))))))
    where
      at_row : (now : Tuple) (way tied all : Bool) (n : ℕ) → (tied ≡ true → agrees catalog conditions (now ++ around) ≡ true) → (all ≡ true → n ≤ most now items)
          → cond way (cond tied (1 + cond all n 0) 0) 0 ≤ (one_if_agrees catalog instance around conditions (now ++ around) + partials catalog instance around conditions now items)
          + total_behind catalog instance around (if_kept catalog instance around conditions behind) now items
      at_row now false tied all n f g = omega arith
      at_row now true false all n f g = omega arith
      at_row now true true true n f g =
          let one : one_if_agrees catalog instance around conditions (now ++ around) ≡ 1 = ap (λ b. cond b 1 0) (f refl) in
          let rest = g refl in
          omega (arith, one, rest)
      at_row now true true false n f g =
          let one : one_if_agrees catalog instance around conditions (now ++ around) ≡ 1 = ap (λ b. cond b 1 0) (f refl) in
          omega (arith, one)
