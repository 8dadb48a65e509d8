-- What a chain of joins reads is no more than the partial tuples, and what is read behind the full ones.
use Rattle.std.proofs.Common.{◌≡◌, ℕ, suc, ◌+◌, ◌-◌, ◌<◌, ◌≤◌, ◌^◌, cond, ◌&&◌, ◌||◌, not, Bool, true, false, List, [], ◌∷◌, ◌++◌, length, max, min, refl, sym, ap, subst, ◌∙◌}
use Rattle.std.proofs.Common.{arith, append_assoc, Option, Some, None}
use Rattle.std.specs.Prelude.{find, bytes_eq, is_some, nat_lt, nat_le}
use Rattle.std.specs.List.{list_all, AllByRecursion}
use Rattle.std.specs.Cmp.Lexicographic.{bytes_decides}
use Rattle.std.proofs.lemmas.Bool.{and_parts}
use Rattle.std.proofs.lemmas.Bool.Decides.{nat_tests}
use Rattle.pgq_base.specs.Instances.{RowValues}
use Rattle.pgq_base.specs.declared.value.Class.TheVariants.{Truth as TruthClass}
use Rattle.expr_tree.specs.declared.tree.Comparison.TheVariants as op
use Rattle.expr_tree.specs.declared.tree.Expr.{Expr}
use Rattle.expr_tree.specs.declared.tree.Expr.TheVariants as v
use Rattle.expr_tree.specs.Classes.{same_class, class_in, well_classed}
use Rattle.expr_tree.specs.Leaves.{leaves_in}
use Rattle.expr_tree.specs.Mapping.{mapped}
use Rattle.expr_tree.proofs.FormLemmas.{leaves, replacements}
use Rattle.graph_ast.specs.declared.catalog.Catalog.{Catalog}
use Rattle.sql_algebra.specs.declared.tree.FromItem.{FromItem}
use Rattle.sql_algebra.specs.declared.tree.ColumnLeaf.{ColumnLeaf}
use Rattle.sql_algebra.specs.Catalogs.{column_place}
use Rattle.sql_algebra.specs.RowReads.{LeafPair, stands_in}
use Rattle.sql_algebra.specs.Soundness.{Reach, is_in, item_has, leaf_is_sound, leaf_class, condition_is_sound}
use Rattle.sql_algebra.specs.Tuples.{Tuple, holds}
use Rattle.sql_algebra.proofs.Folds.{on-Leaf, on-Compare}
use Rattle.row_eval.specs.declared.frame.Slot.{Slot}
use Rattle.row_eval.specs.declared.frame.Condition.{Condition}
use Rattle.row_eval.specs.declared.legs.Leg.{Leg}
use Rattle.row_eval.specs.declared.ties.Side.TheVariants.{Own, Earlier}
use Rattle.row_eval.specs.Levels.{level_in, level_step}
use Rattle.row_eval.specs.Plans.{items_in}
use Rattle.row_eval.specs.Scopes.{Placed, own_places, reach_under, AreBelow, tuple_of, slot_in_reach, leaf_at_slot, leaf_expr_of}
use Rattle.row_eval.specs.Slots.{Stack, is_kept}
use Rattle.row_eval.specs.Sorted.{each_passes, AreDecidedAt}
use Rattle.row_eval.specs.Ties.{side_of, tied_sides, are_tied, slots_of, tie_holds, ties_hold}
use Rattle.row_eval.specs.Typed.{IsTyped}
use Rattle.row_eval.proofs.ChainReach.{aliases, Differ, sought, not_true, both_true, later_apart, IsApart}
use Rattle.row_eval.proofs.EqualityForms.{slots_alone, slots_compared}
use Rattle.row_eval.proofs.PlanLemmas.{means, reach_items}
use Rattle.row_eval.proofs.SortLemmas.{resolved_level}
use Rattle.row_eval.proofs.TypedLemmas.{items_of}

-- ---- leaves that stand in a part of the reach

module _ (catalog : Catalog) (leaf : ColumnLeaf) where
  abbrev others : List FromItem → Bool
  others items = list_all (λ (x : FromItem). not (bytes_eq x.alias leaf.alias)) items

  none_sought : (outer later : List FromItem) → is_in leaf.alias (aliases outer) ≡ true → IsApart catalog leaf outer later ≡ true → others later ≡ true
  none_sought outer [] h k = refl
  none_sought outer (x ∷ later) h k =
      let two = and_parts (not (is_in x.alias (aliases outer))) (IsApart catalog leaf outer later) k in
      both_true (not (bytes_eq x.alias leaf.alias)) (others later) (by (bytes_eq x.alias leaf.alias) refl two.0) (none_sought outer later h two.1)
    where
      by : (b : Bool) → bytes_eq x.alias leaf.alias ≡ b → not (is_in x.alias (aliases outer)) ≡ true → not b ≡ true
      by false e k = refl
      by true e k =
          let same : x.alias ≡ leaf.alias = (bytes_decides x.alias leaf.alias).0 e in
          let in_it : is_in x.alias (aliases outer) ≡ true = ap (λ n. is_in n (aliases outer)) same ∙ h in
          let never : false ≡ true = ap not (sym in_it) ∙ k in absurd cc

  skip_slots : (place : ℕ) (later : List FromItem) (outer : List Placed) → others later ≡ true → slot_in_reach catalog (own_places place later ++ outer) leaf
      ≡ slot_in_reach catalog outer leaf
  skip_slots place [] outer h = refl
  skip_slots place (x ∷ later) outer h =
      let two = and_parts (not (bytes_eq x.alias leaf.alias)) (others later) h in
      ap (λ b. cond b (Some (record { item = place; column = column_place catalog x.table leaf.column; class = leaf.class }))
      (slot_in_reach catalog (own_places (suc place) later ++ outer) leaf)) (not_true (bytes_eq x.alias leaf.alias) two.0)
      ∙ skip_slots (suc place) later outer two.1

  part_slots : (place next : ℕ) (done later : List FromItem) (outer : List Placed) → (is_in leaf.alias (aliases (items_in outer)) ≡ true → others later ≡ true)
      → is_in leaf.alias (aliases (done ++ items_in outer)) ≡ true
      → slot_in_reach catalog (own_places place done ++ (own_places next later ++ outer)) leaf ≡ slot_in_reach catalog (own_places place done ++ outer) leaf
  part_slots place next [] later outer f h = skip_slots next later outer (f h)
  part_slots place next (x ∷ done) later outer f h = by (bytes_eq x.alias leaf.alias) h (part_slots (suc place) next done later outer f)
    where
      by : (b : Bool) → (b || is_in leaf.alias (aliases (done ++ items_in outer))) ≡ true
          → (is_in leaf.alias (aliases (done ++ items_in outer)) ≡ true
          → slot_in_reach catalog (own_places (suc place) done ++ (own_places next later ++ outer)) leaf ≡ slot_in_reach catalog (own_places (suc place) done ++ outer) leaf)
          → cond b (Some (record { item = place; column = column_place catalog x.table leaf.column; class = leaf.class }))
          (slot_in_reach catalog (own_places (suc place) done ++ (own_places next later ++ outer)) leaf)
          ≡ cond b (Some (record { item = place; column = column_place catalog x.table leaf.column; class = leaf.class }))
          (slot_in_reach catalog (own_places (suc place) done ++ outer) leaf)
      by true h later = refl
      by false h later = later h

  skip_found : (later outer : List FromItem) → others later ≡ true → find (sought leaf) (later ++ outer) ≡ find (sought leaf) outer
  skip_found [] outer h = refl
  skip_found (x ∷ later) outer h =
      let two = and_parts (not (bytes_eq x.alias leaf.alias)) (others later) h in
      ap (λ b. cond b (Some x) (find (sought leaf) (later ++ outer))) (not_true (bytes_eq x.alias leaf.alias) two.0) ∙ skip_found later outer two.1

  part_found : (done later outer : List FromItem) → (is_in leaf.alias (aliases outer) ≡ true → others later ≡ true) → is_in leaf.alias (aliases (done ++ outer)) ≡ true
      → find (sought leaf) (done ++ (later ++ outer)) ≡ find (sought leaf) (done ++ outer)
  part_found [] later outer f h = skip_found later outer (f h)
  part_found (x ∷ done) later outer f h = by (bytes_eq x.alias leaf.alias) h (part_found done later outer f)
    where
      by : (b : Bool) → (b || is_in leaf.alias (aliases (done ++ outer))) ≡ true
          → (is_in leaf.alias (aliases (done ++ outer)) ≡ true → find (sought leaf) (done ++ (later ++ outer)) ≡ find (sought leaf) (done ++ outer))
          → cond b (Some x) (find (sought leaf) (done ++ (later ++ outer))) ≡ cond b (Some x) (find (sought leaf) (done ++ outer))
      by true h later = refl
      by false h later = later h

  own_append : (place : ℕ) (xs ys : List FromItem) → own_places place (xs ++ ys) ≡ own_places place xs ++ own_places (place + length xs) ys
  own_append place [] ys = ap (λ n. own_places n ys) (omega arith)
  own_append place (x ∷ xs) ys =
      ap (λ (l : List Placed). let r : Placed = record { item = x; place = place } in r ∷ l)
      (own_append (suc place) xs ys ∙ ap (λ n. own_places (suc place) xs ++ own_places n ys) (omega arith))

  -- a leaf that stands in the first part means there what it means in the whole
  same_leaf : (done later : List FromItem) (outer : List Placed) → Differ (items_in outer) (done ++ later) → is_in leaf.alias (aliases (done ++ items_in outer)) ≡ true
      → leaf_expr_of catalog (reach_under (done ++ later) outer) leaf ≡ leaf_expr_of catalog (reach_under done outer) leaf
  same_leaf done later outer differ h =
      ap (leaf_at_slot leaf)
      (ap (λ r. slot_in_reach catalog r leaf)
      (ap (λ l. l ++ outer) (own_append (length outer) done later) ∙ append_assoc (own_places (length outer) done) (own_places (length outer + length done) later) outer)
      ∙ part_slots (length outer) (length outer + length done) done later outer
      (λ k. none_sought (items_in outer) later k (later_apart (items_in outer) catalog leaf done later differ)) h)

  same_sound : (done later : List FromItem) (outer : List Placed) → Differ (items_in outer) (done ++ later) → is_in leaf.alias (aliases (done ++ items_in outer)) ≡ true
      → leaf_is_sound catalog ((done ++ later) ++ items_in outer) leaf ≡ leaf_is_sound catalog (done ++ items_in outer) leaf
  same_sound done later outer differ h =
      ap (λ r. leaf_is_sound catalog r leaf) (append_assoc done later (items_in outer))
      ∙ ap (item_has catalog leaf) (part_found done later (items_in outer)
      (λ k. none_sought (items_in outer) later k (later_apart (items_in outer) catalog leaf done later differ)) h)

  -- it has a slot
  has_slot : (reach : List Placed) → is_in leaf.alias (aliases (items_in reach)) ≡ true → (slot : Slot) × (leaf_expr_of catalog reach leaf ≡ v.Leaf slot)
  has_slot [] h = absurd cc
  has_slot (r ∷ reach) h = by (bytes_eq r.item.alias leaf.alias) h (has_slot reach)
    where
      by : (b : Bool) → (b || is_in leaf.alias (aliases (items_in reach))) ≡ true
          → (is_in leaf.alias (aliases (items_in reach)) ≡ true → (slot : Slot) × (leaf_expr_of catalog reach leaf ≡ v.Leaf slot))
          → (slot : Slot) × (leaf_at_slot leaf
          (cond b (Some (record { item = r.place; column = column_place catalog r.item.table leaf.column; class = leaf.class })) (slot_in_reach catalog reach leaf))
          ≡ v.Leaf slot)
      by true h later = (record { item = r.place; column = column_place catalog r.item.table leaf.column; class = leaf.class }, refl)
      by false h later = later h

  stands : (tuple : Tuple) → stands_in tuple leaf ≡ is_in leaf.alias (aliases (items_of tuple))
  stands [] = refl
  stands (b ∷ tuple) = ap (λ x. bytes_eq b.item.alias leaf.alias || x) (stands tuple)

tuple_items : (reach : List Placed) (t : Stack) → items_of (tuple_of reach t) ≡ items_in reach
tuple_items [] t = refl
tuple_items (r ∷ reach) t = ap (λ l. r.item ∷ l) (tuple_items reach t)

-- ---- an equality that a part of the rows decides

module _ (catalog : Catalog) (done later : List FromItem) (outer : List Placed) (differ : Differ (items_in outer) (done ++ later)) where
  abbrev whole : List Placed
  whole = reach_under (done ++ later) outer

  abbrev part : List Placed
  part = reach_under done outer

  module _ (t : Stack) (typed : IsTyped catalog (tuple_of part t)) (e : Expr ColumnLeaf) (pair : LeafPair) (form : e ≡ v.Compare op.Equal (v.Leaf pair.left) (v.Leaf pair.right))
      (left : stands_in (tuple_of part t) pair.left ≡ true) (right : stands_in (tuple_of part t) pair.right ≡ true) where
    standing : (leaf : ColumnLeaf) → stands_in (tuple_of part t) leaf ≡ true → is_in leaf.alias (aliases (done ++ items_in outer)) ≡ true
    standing leaf h = ap (λ items. is_in leaf.alias (aliases items)) (sym (tuple_items part t ∙ reach_items done outer)) ∙ sym (stands catalog leaf (tuple_of part t)) ∙ h

    compared : (reach : List Placed) → mapped (leaf_expr_of catalog reach) e ≡ v.Compare op.Equal (leaf_expr_of catalog reach pair.left) (leaf_expr_of catalog reach pair.right)
    compared reach =
        let R = replacements (leaf_expr_of catalog reach) in
        ap (mapped (leaf_expr_of catalog reach)) form ∙ R.compare op.Equal (v.Leaf pair.left) (v.Leaf pair.right)
        ∙ ap (λ x. v.Compare op.Equal x (mapped (leaf_expr_of catalog reach) (v.Leaf pair.right))) (R.leaf pair.left)
        ∙ ap (λ x. v.Compare op.Equal (leaf_expr_of catalog reach pair.left) x) (R.leaf pair.right)

    same_made : mapped (leaf_expr_of catalog whole) e ≡ mapped (leaf_expr_of catalog part) e
    same_made =
        compared whole ∙ ap (λ x. v.Compare op.Equal x (leaf_expr_of catalog whole pair.right)) (same_leaf catalog pair.left done later outer differ (standing pair.left left))
        ∙ ap (λ x. v.Compare op.Equal (leaf_expr_of catalog part pair.left) x) (same_leaf catalog pair.right done later outer differ (standing pair.right right))
        ∙ sym (compared part)

    two_leaves : leaves_in e ≡ pair.left ∷ pair.right ∷ []
    two_leaves =
        let L = leaves {L = ColumnLeaf} in
        ap leaves_in form ∙ L.compare op.Equal (v.Leaf pair.left) (v.Leaf pair.right)
        ∙ ap (λ x. x ++ leaves_in (v.Leaf pair.right)) (L.leaf pair.left) ∙ ap (λ x. pair.left ∷ x) (L.leaf pair.right)

    part_sound : condition_is_sound catalog ((done ++ later) ++ items_in outer) e ≡ true → condition_is_sound catalog (items_in part) e ≡ true
    part_sound h =
        let all = λ (reach : Reach). list_all (leaf_is_sound catalog reach) (leaves_in e) in
        let same : all (done ++ items_in outer) ≡ all ((done ++ later) ++ items_in outer) =
        ap (list_all (leaf_is_sound catalog (done ++ items_in outer))) two_leaves
        ∙ ap (λ b. b && (leaf_is_sound catalog (done ++ items_in outer) pair.right && true)) (sym (same_sound catalog pair.left done later outer differ (standing pair.left left)))
        ∙ ap (λ b. leaf_is_sound catalog ((done ++ later) ++ items_in outer) pair.left && (b && true))
        (sym (same_sound catalog pair.right done later outer differ (standing pair.right right)))
        ∙ ap (list_all (leaf_is_sound catalog ((done ++ later) ++ items_in outer))) (sym two_leaves) in
        ap (λ items. condition_is_sound catalog items e) (reach_items done outer)
        ∙ ap (λ b. (b && well_classed leaf_class e) && same_class TruthClass (class_in leaf_class e)) same ∙ h

    pub kept_means : condition_is_sound catalog ((done ++ later) ++ items_in outer) e ≡ true → is_kept t (mapped (leaf_expr_of catalog whole) e) ≡ holds catalog (tuple_of part t) e
    kept_means h = ap (is_kept t) same_made ∙ means catalog part t typed e (part_sound h)

    in_part : (leaf : ColumnLeaf) → stands_in (tuple_of part t) leaf ≡ true → is_in leaf.alias (aliases (items_in part)) ≡ true
    in_part leaf h = ap (λ items. is_in leaf.alias (aliases items)) (reach_items done outer) ∙ standing leaf h

    pub has_slots : is_some (slots_of (mapped (leaf_expr_of catalog whole) e)) ≡ true
    has_slots =
        let a = has_slot catalog pair.left part (in_part pair.left left) in
        let b = has_slot catalog pair.right part (in_part pair.right right) in
        ap (λ x. is_some (slots_of x))
        (same_made ∙ compared part ∙ ap (λ x. v.Compare op.Equal x (leaf_expr_of catalog part pair.right)) a.1 ∙ ap (λ x. v.Compare op.Equal (v.Leaf a.0) x) b.1)
        ∙ ap is_some (slots_compared a.0 b.0)

    pub decided_level : (n : ℕ) → AreBelow n part → level_in (mapped (leaf_expr_of catalog whole) e) ≤ n
    decided_level n below = subst (λ x. level_in x ≤ n) (sym same_made) (resolved_level n catalog part below e)

-- ---- a test that each condition passes where the ties hold

module _ (place : ℕ) (t : Stack) where
  -- an equality that so many rows decide is True
  abbrev pub passes : Expr Slot → Bool
  passes e = cond (nat_le (level_in e) (suc place) && is_some (slots_of e)) (is_kept t e) true

  pub kept_passes : (e : Expr Slot) → is_kept t e ≡ true → passes e ≡ true
  kept_passes e h = by (nat_le (level_in e) (suc place) && is_some (slots_of e))
    where
      by : (b : Bool) → cond b (is_kept t e) true ≡ true
      by true = h
      by false = refl

  later_passes : (d : ℕ) → suc place ≤ d → (tests : List Condition) → AllByRecursion (λ (c : Condition). level_in c.expr ≡ suc d) tests → each_passes passes tests ≡ true
  later_passes d h [] k = refl
  later_passes d h (c ∷ cs) k =
      let high : nat_le (level_in c.expr) (suc place) ≡ false = (let level = k.0 in above (level_in c.expr) (suc place) (omega (arith, h, level))) in
      both_true (passes c.expr) (each_passes passes cs) (ap (λ b. cond (b && is_some (slots_of c.expr)) (is_kept t c.expr) true) high) (later_passes d h cs k.1)
    where
      above : (a b : ℕ) → b < a → nat_le a b ≡ false
      above a b h = grind (arith, nat_tests)

  pub legs_pass : (d : ℕ) → suc place ≤ d → (legs : List Leg) → AreDecidedAt d legs → list_all (λ (leg : Leg). each_passes passes leg.tests) legs ≡ true
  legs_pass d h [] k = refl
  legs_pass d h (leg ∷ legs) k = both_true (each_passes passes leg.tests) _ (later_passes d h leg.tests k.0) (legs_pass (suc d) (omega (arith, h)) legs k.1)

module _ (place : ℕ) (s : Stack) (row : RowValues) where
  own_side : (slot : Slot) → slot.item ≡ place → side_of place slot ≡ Own
  own_side slot h = grind (arith, nat_tests)

  earlier_side : (slot : Slot) → slot.item < place → side_of place slot ≡ Earlier
  earlier_side slot h = grind (arith, nat_tests)

  sides : (a b : Slot) → a.item ≤ place → b.item ≤ place → max (a.item + 1) (b.item + 1) ≡ suc place → tied_sides (side_of place a) (side_of place b) ≡ true
  sides a b h k most = by (nat_lt a.item place) (nat_lt b.item place) refl refl
    where
      less : (i : ℕ) → nat_lt i place ≡ true → i < place
      less i e = grind (arith, nat_tests)

      same : (i : ℕ) → nat_lt i place ≡ false → i ≤ place → i ≡ place
      same i e h = grind (arith, nat_tests)

      by : (x y : Bool) → nat_lt a.item place ≡ x → nat_lt b.item place ≡ y → tied_sides (side_of place a) (side_of place b) ≡ true
      by true true e f = let one = less a.item e in let two = less b.item f in absurd (omega (arith, one, two, most))
      by true false e f = ap (λ z. tied_sides z (side_of place b)) (earlier_side a (less a.item e)) ∙ ap (λ z. tied_sides Earlier z) (own_side b (same b.item f k))
      by false true e f = ap (λ z. tied_sides z (side_of place b)) (own_side a (same a.item e h)) ∙ ap (λ z. tied_sides Own z) (earlier_side b (less b.item f))
      by false false e f = ap (λ z. tied_sides z (side_of place b)) (own_side a (same a.item e h)) ∙ ap (λ z. tied_sides Own z) (own_side b (same b.item f k))

  tied_at : (e : Expr Slot) (pair : Slot × Slot) → slots_of e ≡ Some pair → level_in e ≡ suc place → suc place < 2 ^ 64 - 1 → are_tied place (slots_of e) ≡ true
  tied_at e pair is level small =
      let form = slots_alone e pair is in
      let levels : level_in e ≡ max (min (pair.0.item + 1) (2 ^ 64 - 1)) (min (pair.1.item + 1) (2 ^ 64 - 1)) =
      ap level_in form ∙ on-Compare level_step op.Equal (v.Leaf pair.0) (v.Leaf pair.1) ∙ ap (λ n. max n (level_in (v.Leaf pair.1))) (on-Leaf level_step pair.0)
      ∙ ap (λ n. max (min (pair.0.item + 1) (2 ^ 64 - 1)) n) (on-Leaf level_step pair.1) in
      let one : pair.0.item ≤ place = omega (arith, levels, level, small) in
      let two : pair.1.item ≤ place = omega (arith, levels, level, small) in
      ap (are_tied place) is ∙ sides pair.0 pair.1 one two (omega (arith, levels, level, small, one, two))

  and_no : (b : Bool) → (b && false) ≡ false
  and_no true = refl
  and_no false = refl

  pub ties_pass : suc place < 2 ^ 64 - 1 → (tests : List Condition) → AllByRecursion (λ (c : Condition). level_in c.expr ≡ suc place) tests → ties_hold place s row tests ≡ true
      → each_passes (passes place (s ++ row ∷ [])) tests ≡ true
  ties_pass small [] k h = refl
  ties_pass small (c ∷ cs) k h =
      let two = and_parts (tie_holds place s row c.expr) (ties_hold place s row cs) h in
      both_true (passes place (s ++ row ∷ []) c.expr) _ (by (slots_of c.expr) refl two.0) (ties_pass small cs k.1 two.1)
    where
      by : (o : Option (Slot × Slot)) → slots_of c.expr ≡ o → tie_holds place s row c.expr ≡ true → passes place (s ++ row ∷ []) c.expr ≡ true
      by None e held =
          ap (λ o. cond (nat_le (level_in c.expr) (suc place) && is_some o) (is_kept (s ++ row ∷ []) c.expr) true) e
          ∙ ap (λ b. cond b (is_kept (s ++ row ∷ []) c.expr) true) (and_no (nat_le (level_in c.expr) (suc place)))
      by (Some pair) e held = kept_passes place (s ++ row ∷ []) c.expr (sym (ap (λ b. cond b (is_kept (s ++ row ∷ []) c.expr) true) (tied_at c.expr pair e k.0 small)) ∙ held)
