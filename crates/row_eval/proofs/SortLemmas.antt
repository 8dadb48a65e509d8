-- Conditions that are sorted by the row that decides them.
use Rattle.std.specs.Prelude.{flat_map}
use Rattle.std.proofs.Common.{◌≡◌, ℕ, suc, zero, ◌+◌, ◌<◌, ◌≤◌, cond, ◌&&◌, Bool, true, false, List, [], ◌∷◌, ◌++◌, map, take, length, get_or, set, refl, sym, ap, subst, ◌∙◌}
use Rattle.std.proofs.Common.{arith, Option, Some, None}
use Rattle.std.specs.Prelude.{bytes_eq, is_some, Result, Ok, Err, IfOk}
use Rattle.std.specs.List.{list_all, AllByRecursion}
use Rattle.std.proofs.lemmas.Bool.{and_parts}
use Rattle.std.proofs.lemmas.Grind.{flat_map-append}
use Rattle.std.proofs.lemmas.List.{append-nil, take_more}
use Rattle.std.proofs.lemmas.List.Folds.{list_all-append}
use Rattle.expr_tree.specs.declared.tree.Expr.{Expr, Expr-F, map-Expr, fold-roll-Expr, ind-Expr}
use Rattle.expr_tree.specs.Leaves.{joined, leaves_step, leaves_in}
use Rattle.expr_tree.specs.Mapping.{mapped}
use Rattle.expr_tree.proofs.Folds.{parts}
use Rattle.expr_tree.proofs.FormLemmas.{leaves}
use Rattle.expr_tree.proofs.LawLemmas.{mapped_leaves}
use Rattle.graph_ast.specs.declared.catalog.Catalog.{Catalog}
use Rattle.sql_algebra.specs.declared.tree.ColumnLeaf.{ColumnLeaf}
use Rattle.graph_ast.specs.declared.catalog.Table.{Table}
use Rattle.sql_algebra.specs.declared.tree.FromItem.{FromItem}
use Rattle.sql_algebra.specs.declared.tree.Conjunct.{Conjunct, Conjunct-F, out-Conjunct, out-roll-Conjunct}
use Rattle.sql_algebra.specs.declared.tree.Conjunct.TheVariants as cv
use Rattle.sql_algebra.specs.Catalogs.{table_named, column_place}
use Rattle.row_eval.specs.declared.frame.Slot.{Slot}
use Rattle.row_eval.specs.declared.frame.Condition.{Condition}
use Rattle.row_eval.specs.declared.legs.Leg.{Leg}
use Rattle.row_eval.specs.declared.sorting.Sorted.{Sorted}
use Rattle.row_eval.specs.Levels.{highest, level_step, level_in}
use Rattle.row_eval.specs.Scopes.{Placed, AreBelow, slot_in_reach, leaf_at_slot, leaf_expr_of}
use Rattle.row_eval.specs.Slots.{Stack, is_kept}
use Rattle.row_eval.specs.Sorted.{each_passes, all_pass, AreDecidedAt, IsSorted, IsNarrow, AreNarrow, Narrows, Adds, AddsTest, SortsAll, bare_leg, table_place_of, leg_tables}
use Rattle.row_eval.specs.Sorted.{leg_ways}
use Rattle.row_eval.specs.Ways.{ways_at, AreWays}
use Rattle.row_eval.specs.Plans.{plain_at}
use Rattle.row_eval.proofs.TypedLemmas.{table_there}

-- ---- the level of a resolved expression

module _ (d : ℕ) where
  abbrev Under : Slot → Type 0
  Under slot = slot.item < d

  abbrev IsDecided : Expr Slot → Type 0
  IsDecided e = AllByRecursion Under (leaves_in e) → level_in e ≤ d

  abbrev bare : ((e : Expr Slot) × IsDecided e) → Expr Slot
  bare e = e.0

  each : (es : List ((e : Expr Slot) × IsDecided e)) → AllByRecursion Under (joined (map leaves_in (map bare es))) → highest (map level_in (map bare es)) ≤ d
  each [] h = omega arith
  each (e ∷ es) h =
      let p = parts Under (leaves_in e.0) (joined (map leaves_in (map bare es))) h in
      let one = e.1 p.0 in
      let others = each es p.1 in
      omega (arith, one, others)

  layer : (y : Expr-F Slot ((e : Expr Slot) × IsDecided e))
      → AllByRecursion Under (leaves_step (map-Expr Slot (Expr Slot) (List Slot) leaves_in (map-Expr Slot ((e : Expr Slot) × IsDecided e) (Expr Slot) bare y)))
      → level_step (map-Expr Slot (Expr Slot) ℕ level_in (map-Expr Slot ((e : Expr Slot) × IsDecided e) (Expr Slot) bare y)) ≤ d
  layer (Expr-F.Lit v) h = omega arith
  layer (Expr-F.Null c) h = omega arith
  layer (Expr-F.Leaf slot) h = let k = h.0 in omega (arith, k)
  layer (Expr-F.Compare op a b) h =
      let p = parts Under (leaves_in a.0) (leaves_in b.0) h in
      let x = a.1 p.0 in
      let y = b.1 p.1 in
      omega (arith, x, y)
  layer (Expr-F.All es) h = each es h
  layer (Expr-F.Any es) h = each es h
  layer (Expr-F.Not a) h = a.1 h
  layer (Expr-F.Is a t n) h = a.1 h
  layer (Expr-F.InList a es n) h =
      let p = parts Under (leaves_in a.0) (joined (map leaves_in (map bare es))) h in
      let x = a.1 p.0 in
      let y = each es p.1 in
      omega (arith, x, y)
  layer (Expr-F.Between a b c n) h =
      let p = parts Under (leaves_in a.0) (leaves_in b.0 ++ leaves_in c.0) h in
      let q = parts Under (leaves_in b.0) (leaves_in c.0) p.1 in
      let x = a.1 p.0 in
      let y = b.1 q.0 in
      let z = c.1 q.1 in
      omega (arith, x, y, z)
  layer (Expr-F.Coalesce es) h = each es h

  level_under : (e : Expr Slot) → IsDecided e
  level_under = ind-Expr Slot IsDecided (λ x y is h.
      let here : AllByRecursion Under (leaves_step (map-Expr Slot (Expr Slot) (List Slot) leaves_in x)) = subst (AllByRecursion Under)
      (fold-roll-Expr Slot (List Slot) leaves_step x) h in
      subst (λ n. n ≤ d) (sym (fold-roll-Expr Slot ℕ level_step x))
      (subst (λ z. AllByRecursion Under (leaves_step (map-Expr Slot (Expr Slot) (List Slot) leaves_in z)) → level_step (map-Expr Slot (Expr Slot) ℕ level_in z) ≤ d) is
      (layer y) here))

  slots_under : (catalog : Catalog) (reach : List Placed) → AreBelow d reach → (leaf : ColumnLeaf) → AllByRecursion Under (leaves_in (leaf_expr_of catalog reach leaf))
  slots_under catalog [] h leaf = subst (AllByRecursion Under) (sym ((leaves {L = Slot}).null leaf.class)) tt
  slots_under catalog (r ∷ reach) h leaf = by (bytes_eq r.item.alias leaf.alias) (slots_under catalog reach h.1 leaf)
    where
      by : (b : Bool) → AllByRecursion Under (leaves_in (leaf_expr_of catalog reach leaf))
          → AllByRecursion Under (leaves_in
          (leaf_at_slot leaf (cond b (Some (record { item = r.place; column = column_place catalog r.item.table leaf.column; class = leaf.class }))
          (slot_in_reach catalog reach leaf))))
      by true k = subst (AllByRecursion Under)
          (sym ((leaves {L = Slot}).leaf (record { item = r.place; column = column_place catalog r.item.table leaf.column; class = leaf.class }))) (h.0, tt)
      by false k = k

  all_under : (catalog : Catalog) (reach : List Placed) → AreBelow d reach → (ls : List ColumnLeaf)
      → AllByRecursion Under (flat_map (λ l. leaves_in (leaf_expr_of catalog reach l)) ls)
  all_under catalog reach h [] = tt
  all_under catalog reach h (l ∷ ls) = both (leaves_in (leaf_expr_of catalog reach l)) (slots_under catalog reach h l) (all_under catalog reach h ls)
    where
      both : (xs : List Slot) → AllByRecursion Under xs → AllByRecursion Under (flat_map (λ l. leaves_in (leaf_expr_of catalog reach l)) ls)
          → AllByRecursion Under (xs ++ flat_map (λ l. leaves_in (leaf_expr_of catalog reach l)) ls)
      both [] k later = later
      both (x ∷ xs) k later = (k.0, both xs k.1 later)

  -- a resolved expression is decided by the rows in reach
  pub resolved_level : (catalog : Catalog) (reach : List Placed) → AreBelow d reach → (e : Expr ColumnLeaf) → level_in (mapped (leaf_expr_of catalog reach) e) ≤ d
  resolved_level catalog reach h e =
      level_under (mapped (leaf_expr_of catalog reach) e)
      (subst (AllByRecursion Under) (sym (mapped_leaves (leaf_expr_of catalog reach) e)) (all_under catalog reach h (leaves_in e)))

-- ---- a condition that is put in

and_front : (f t l : Bool) → ((f && (t && true)) && l) ≡ ((f && l) && t)
and_front true true true = refl
and_front true true false = refl
and_front true false true = refl
and_front true false false = refl
and_front false t l = refl

and_next : (a b c : Bool) → (a && (b && c)) ≡ ((a && b) && c)
and_next true b c = refl
and_next false b c = refl

each_more : (test : Expr Slot → Bool) (tests : List Condition) (c : Condition) → each_passes test (tests ++ c ∷ []) ≡ (each_passes test tests && (test c.expr && true))
each_more test tests c = list_all-append (λ (c : Condition). test c.expr) tests (c ∷ [])

all_more : {X : Type 0} (P : X → Type 0) (xs : List X) (x : X) → AllByRecursion P xs → P x → AllByRecursion P (xs ++ x ∷ [])
all_more P [] x h k = (k, tt)
all_more P (y ∷ xs) x h k = (h.0, all_more P xs x h.1 k)

-- before the legs
pub first_more : (test : Expr Slot → Bool) (first : List Condition) (legs : List Leg) (c : Condition) → all_pass test (first ++ c ∷ []) legs
    ≡ (all_pass test first legs && test c.expr)
first_more test first legs c =
    ap (λ b. b && list_all (λ (leg : Leg). each_passes test leg.tests) legs) (each_more test first c)
    ∙ and_front (each_passes test first) (test c.expr) (list_all (λ (leg : Leg). each_passes test leg.tests) legs)

pub first_sorted : (depth : ℕ) (first : List Condition) (legs : List Leg) (c : Condition) → IsSorted depth first legs → level_in c.expr ≤ depth
    → IsSorted depth (first ++ c ∷ []) legs
first_sorted depth first legs c sorted h = record { first = all_more (λ (c : Condition). level_in c.expr ≤ depth) first c sorted.first h; legs = sorted.legs }

-- at a leg
module _ (leg new : Leg) (c : Condition) (more : new.tests ≡ leg.tests ++ c ∷ []) (same : new.table ≡ leg.table) where
  legs_more : (test : Expr Slot → Bool) (legs : List Leg) (i : ℕ) → i < length legs → leg ≡ get_or legs i leg
      → list_all (λ (leg : Leg). each_passes test leg.tests) (set legs i new) ≡ (list_all (λ (leg : Leg). each_passes test leg.tests) legs && test c.expr)
  legs_more test [] i h is = absurd (omega arith)
  legs_more test (x ∷ legs) zero h is =
      ap (λ tests. each_passes test tests && list_all (λ (leg : Leg). each_passes test leg.tests) legs) (more ∙ ap (λ (l : Leg). l.tests ++ c ∷ []) is)
      ∙ ap (λ b. b && list_all (λ (leg : Leg). each_passes test leg.tests) legs) (each_more test x.tests c)
      ∙ and_front (each_passes test x.tests) (test c.expr) (list_all (λ (leg : Leg). each_passes test leg.tests) legs)
  legs_more test (x ∷ legs) (suc i) h is =
      ap (λ b. each_passes test x.tests && b) (legs_more test legs i (omega arith) is)
      ∙ and_next (each_passes test x.tests) (list_all (λ (leg : Leg). each_passes test leg.tests) legs) (test c.expr)

  pub leg_more : (test : Expr Slot → Bool) (first : List Condition) (legs : List Leg) (i : ℕ) → i < length legs → leg ≡ get_or legs i leg
      → all_pass test first (set legs i new) ≡ (all_pass test first legs && test c.expr)
  leg_more test first legs i h is =
      ap (λ b. each_passes test first && b) (legs_more test legs i h is)
      ∙ and_next (each_passes test first) (list_all (λ (leg : Leg). each_passes test leg.tests) legs) (test c.expr)

  legs_sorted : (depth : ℕ) (legs : List Leg) (i : ℕ) → i < length legs → leg ≡ get_or legs i leg → level_in c.expr ≡ depth + (i + 1) → AreDecidedAt depth legs
      → AreDecidedAt depth (set legs i new)
  legs_sorted depth [] i h is level sorted = absurd (omega arith)
  legs_sorted depth (x ∷ legs) zero h is level sorted = (
    subst (λ tests. AllByRecursion (λ (c : Condition). level_in c.expr ≡ suc depth) tests) (sym (more ∙ ap (λ (l : Leg). l.tests ++ c ∷ []) is))
        (all_more (λ (c : Condition). level_in c.expr ≡ suc depth) x.tests c sorted.0 (omega (arith, level))),
    sorted.1,
  )
  legs_sorted depth (x ∷ legs) (suc i) h is level sorted = (sorted.0, legs_sorted (suc depth) legs i (omega arith) is (omega (arith, level)) sorted.1)

  pub leg_sorted : (depth : ℕ) (first : List Condition) (legs : List Leg) (i : ℕ) → i < length legs → leg ≡ get_or legs i leg → level_in c.expr ≡ depth + (i + 1)
      → IsSorted depth first legs
      → IsSorted depth first (set legs i new)
  leg_sorted depth first legs i h is level sorted = record { first = sorted.first; legs = legs_sorted depth legs i h is level sorted.legs }

  pub same_tables : (legs : List Leg) (i : ℕ) → i < length legs → leg ≡ get_or legs i leg → leg_tables (set legs i new) ≡ leg_tables legs
  same_tables [] i h is = absurd (omega arith)
  same_tables (x ∷ legs) zero h is = ap (λ n. n ∷ leg_tables legs) (same ∙ ap (λ (l : Leg). l.table) is)
  same_tables (x ∷ legs) (suc i) h is = ap (λ l. x.table ∷ l) (same_tables legs i (omega arith) is)

pub same_ways : (leg new : Leg) → new.ways ≡ leg.ways → (legs : List Leg) (i : ℕ) → i < length legs → leg ≡ get_or legs i leg → leg_ways (set legs i new) ≡ leg_ways legs
same_ways leg new same [] i h is = absurd (omega arith)
same_ways leg new same (x ∷ legs) zero h is = ap (λ l. l ∷ leg_ways legs) (same ∙ ap (λ (l : Leg). l.ways) is)
same_ways leg new same (x ∷ legs) (suc i) h is = ap (λ l. x.ways ∷ l) (same_ways leg new same legs i (omega arith) is)

pub legs_alike : (xs ys : List Leg) → leg_tables xs ≡ leg_tables ys → length xs ≡ length ys
legs_alike xs ys e = sym (long xs) ∙ ap length e ∙ long ys
  where
    long : (legs : List Leg) → length (leg_tables legs) ≡ length legs
    long [] = refl
    long (leg ∷ legs) = ap suc (long legs)

-- ---- a leg that gets ways

module _ (leg new : Leg) (tests : new.tests ≡ leg.tests) (table : new.table ≡ leg.table) where
  ways_pass : (test : Expr Slot → Bool) (legs : List Leg) (i : ℕ) → i < length legs → leg ≡ get_or legs i leg
      → list_all (λ (leg : Leg). each_passes test leg.tests) (set legs i new) ≡ list_all (λ (leg : Leg). each_passes test leg.tests) legs
  ways_pass test [] i h is = absurd (omega arith)
  ways_pass test (x ∷ legs) zero h is =
      ap (λ l. each_passes test l && list_all (λ (leg : Leg). each_passes test leg.tests) legs) (tests ∙ ap (λ (l : Leg). l.tests) is)
  ways_pass test (x ∷ legs) (suc i) h is = ap (λ b. each_passes test x.tests && b) (ways_pass test legs i (omega arith) is)

  ways_decided : (depth : ℕ) (legs : List Leg) (i : ℕ) → i < length legs → leg ≡ get_or legs i leg → AreDecidedAt depth legs → AreDecidedAt depth (set legs i new)
  ways_decided depth [] i h is sorted = absurd (omega arith)
  ways_decided depth (x ∷ legs) zero h is sorted = (
    subst (λ l. AllByRecursion (λ (c : Condition). level_in c.expr ≡ suc depth) l) (sym (tests ∙ ap (λ (l : Leg). l.tests) is)) sorted.0,
    sorted.1,
  )
  ways_decided depth (x ∷ legs) (suc i) h is sorted = (sorted.0, ways_decided (suc depth) legs i (omega arith) is sorted.1)

  ways_tables : (legs : List Leg) (i : ℕ) → i < length legs → leg ≡ get_or legs i leg → leg_tables (set legs i new) ≡ leg_tables legs
  ways_tables [] i h is = absurd (omega arith)
  ways_tables (x ∷ legs) zero h is = ap (λ n. n ∷ leg_tables legs) (table ∙ ap (λ (l : Leg). l.table) is)
  ways_tables (x ∷ legs) (suc i) h is = ap (λ l. x.table ∷ l) (ways_tables legs i (omega arith) is)

  ways_narrow : (t : Stack) (depth : ℕ) (legs : List Leg) (i : ℕ) → i < length legs → (depth + i < length t → ways_at (depth + i) t new.ways ≡ true)
      → AreNarrow t depth (leg_ways legs) → AreNarrow t depth (leg_ways (set legs i new))
  ways_narrow t depth [] i h right narrow = absurd (omega arith)
  ways_narrow t depth (x ∷ legs) zero h right narrow =
      let here : depth + 0 ≡ depth = omega arith in
      (subst (λ n. n < length t → ways_at n t new.ways ≡ true) here right, narrow.1)
  ways_narrow t depth (x ∷ legs) (suc i) h right narrow =
      let here : depth + suc i ≡ suc depth + i = omega arith in
      (narrow.0, ways_narrow t (suc depth) legs i (omega arith) (subst (λ n. n < length t → ways_at n t new.ways ≡ true) here right) narrow.1)

  pub narrows_leg : (depth : ℕ) (condition : Expr Slot) (old made : Sorted) (i place : ℕ) → i < length old.legs.items → leg ≡ get_or old.legs.items i leg
      → depth + i ≡ place → made.first ≡ old.first → made.legs.items ≡ set old.legs.items i new → AreWays place (λ t. is_kept t condition) new.ways
      → Narrows depth condition old made
  narrows_leg depth condition old made i place h is at first legs right = record {
    all = λ test. ap (λ l. all_pass test l made.legs.items) first ∙ ap (all_pass test old.first) legs
        ∙ ap (λ b. each_passes test old.first && b) (ways_pass test old.legs.items i h is);
    sorted = λ sorted. subst (λ l. IsSorted depth l made.legs.items) (sym first) (subst (IsSorted depth old.first) (sym legs)
        (record { first = sorted.first; legs = ways_decided depth old.legs.items i h is sorted.legs }));
    tables = ap leg_tables legs ∙ ways_tables old.legs.items i h is;
    narrow = λ t test narrow. subst (λ l. AreNarrow t depth (leg_ways l)) (sym legs)
        (ways_narrow t depth old.legs.items i h (subst (λ n. n < length t → ways_at n t new.ways ≡ true) (sym at) (λ inside. right t inside test)) narrow);
  }

pub narrows_none : (depth : ℕ) (condition : Expr Slot) (old : Sorted) → Narrows depth condition old old
narrows_none depth condition old = record { all = λ test. refl; sorted = λ h. h; tables = refl; narrow = λ t test h. h }

pub narrows_more : (depth : ℕ) (condition : Expr Slot) (old now new : Sorted) → Narrows depth condition old now → Narrows depth condition now new → Narrows depth condition old new
narrows_more depth condition old now new first second = record {
  all = λ test. second.all test ∙ first.all test;
  sorted = λ h. second.sorted (first.sorted h);
  tables = second.tables ∙ first.tables;
  narrow = λ t test h. second.narrow t test (first.narrow t test h);
}

-- ---- conditions one after another

module _ (catalog : Catalog) (reach : List Placed) (depth : ℕ) where
  and_true : (b : Bool) → b ≡ (b && true)
  and_true true = refl
  and_true false = refl

  pub adds_none : (old : Sorted) → IsSorted depth old.first old.legs.items → Adds catalog reach depth [] old old
  adds_none old sorted = record { all = λ test. and_true (all_pass test old.first old.legs.items); sorted = sorted; tables = refl; narrow = λ h. h }

  pub adds_one : (e : Expr ColumnLeaf) (old mid new : Sorted) (made : Expr Slot) → made ≡ mapped (leaf_expr_of catalog reach) e → Narrows depth made old mid
      → AddsTest made mid new → IsSorted depth new.first new.legs.items → leg_tables new.legs.items ≡ leg_tables mid.legs.items
      → leg_ways new.legs.items ≡ leg_ways mid.legs.items → Adds catalog reach depth (e ∷ []) old new
  adds_one e old mid new made is narrows all sorted tables ways = record {
    all = λ test. all test ∙ ap (λ b. b && test made) (narrows.all test) ∙ ap (λ x. all_pass test old.first old.legs.items && test x) is
        ∙ ap (λ b. all_pass test old.first old.legs.items && b) (and_true (test (mapped (leaf_expr_of catalog reach) e)));
    sorted = sorted;
    tables = tables ∙ narrows.tables;
    narrow = λ h t pass.
        let two = and_parts (all_pass (is_kept t) mid.first mid.legs.items) (is_kept t made) (sym (all (is_kept t)) ∙ pass) in
        subst (AreNarrow t depth) (sym ways) (narrows.narrow t two.1 (h t (sym (narrows.all (is_kept t)) ∙ two.0)));
  }

  pub adds_more : (xs ys : List (Expr ColumnLeaf)) (old now new : Sorted) → Adds catalog reach depth xs old now → Adds catalog reach depth ys now new
      → Adds catalog reach depth (xs ++ ys) old new
  adds_more xs ys old now new first second = record {
    all = λ test.
        let p = λ (e : Expr ColumnLeaf). test (mapped (leaf_expr_of catalog reach) e) in
        second.all test ∙ ap (λ b. b && list_all p ys) (first.all test) ∙ sym (and_next (all_pass test old.first old.legs.items) (list_all p xs) (list_all p ys))
        ∙ ap (λ b. all_pass test old.first old.legs.items && b) (sym (list_all-append p xs ys));
    sorted = second.sorted;
    tables = second.tables ∙ first.tables;
    narrow = λ h. second.narrow (first.narrow h);
  }

  tables_long : (legs : List Leg) → length (leg_tables legs) ≡ length legs
  tables_long [] = refl
  tables_long (leg ∷ legs) = ap suc (tables_long legs)

  pub as_long : (xs : List (Expr ColumnLeaf)) (old new : Sorted) → Adds catalog reach depth xs old new → length new.legs.items ≡ length old.legs.items
  as_long xs old new adds = sym (tables_long new.legs.items) ∙ ap length adds.tables ∙ tables_long old.legs.items

-- ---- lists that are gone through

module _ {X Y : Type 0} (f : X → List Y) where
  pub flat_next : (xs : List X) (i : ℕ) (x : X) → i < length xs → x ≡ get_or xs i x → flat_map f (take (i + 1) xs) ≡ flat_map f (take i xs) ++ f x
  flat_next xs i x h is =
      ap (flat_map f) (take_more xs i x h) ∙ flat_map-append f (take i xs) (get_or xs i x ∷ [])
      ∙ ap (λ l. flat_map f (take i xs) ++ l) (append-nil (f (get_or xs i x)) ∙ ap f (sym is))

  pub flat_at : (p : Y → Bool) (xs : List X) (i : ℕ) (x : X) → i < length xs → x ≡ get_or xs i x → list_all p (flat_map f xs) ≡ true → list_all p (f x) ≡ true
  flat_at p [] i x h is all = absurd (omega arith)
  flat_at p (y ∷ xs) zero x h is all =
      ap (λ z. list_all p (f z)) is ∙ (and_parts (list_all p (f y)) (list_all p (flat_map f xs)) (sym (list_all-append p (f y) (flat_map f xs)) ∙ all)).0
  flat_at p (y ∷ xs) (suc i) x h is all =
      flat_at p xs i x (omega arith) is (and_parts (list_all p (f y)) (list_all p (flat_map f xs)) (sym (list_all-append p (f y) (flat_map f xs)) ∙ all)).1

pub take_next : {X : Type 0} (xs : List X) (i : ℕ) (x : X) → i < length xs → x ≡ get_or xs i x → take i xs ++ x ∷ [] ≡ take (i + 1) xs
take_next xs i x h is = ap (λ z. take i xs ++ z ∷ []) is ∙ sym (take_more xs i x h)

-- ---- a FROM without a test

pub known_place : (catalog : Catalog) (item : FromItem) → is_some (table_named catalog item.table) ≡ true → table_place_of catalog item < length catalog.tables
known_place catalog item h = by (table_named catalog item.table) refl
  where
    by : (o : Option Table) → table_named catalog item.table ≡ o → table_place_of catalog item < length catalog.tables
    by None e = let never : false ≡ true = sym (ap is_some e) ∙ h in absurd cc
    by (Some table) e = (table_there item.table catalog.tables table (record { name = []; columns = []; keys = []; references = [] }) e).0

module _ (catalog : Catalog) where
  bare_decided : (depth : ℕ) (items : List FromItem) → AreDecidedAt depth (map (bare_leg catalog) items)
  bare_decided depth [] = tt
  bare_decided depth (item ∷ items) = (tt, bare_decided (suc depth) items)

  pub bare_sorted : (depth : ℕ) (items : List FromItem) (legs : List Leg) → legs ≡ map (bare_leg catalog) items → IsSorted depth [] legs
  bare_sorted depth items legs is = subst (IsSorted depth []) (sym is) (record { first = tt; legs = bare_decided depth items })

  bare_passes : (test : Expr Slot → Bool) (items : List FromItem) → all_pass test [] (map (bare_leg catalog) items) ≡ true
  bare_passes test [] = refl
  bare_passes test (item ∷ items) = bare_passes test items

  bare_narrow : (t : Stack) (depth : ℕ) (items : List FromItem) → AreNarrow t depth (leg_ways (map (bare_leg catalog) items))
  bare_narrow t depth [] = tt
  bare_narrow t depth (item ∷ items) = (λ inside. refl, bare_narrow t (suc depth) items)

  pub sorted_narrow : (reach : List Placed) (depth : ℕ) (items : List FromItem) (xs ys : List (Expr ColumnLeaf)) (bare half new : Sorted) → bare.legs.items
      ≡ map (bare_leg catalog) items
      → Adds catalog reach depth xs bare half → Adds catalog reach depth ys half new → IsNarrow depth new
  sorted_narrow reach depth items xs ys bare half new legs first second =
      second.narrow (first.narrow (λ t pass. subst (λ l. AreNarrow t depth (leg_ways l)) (sym legs) (bare_narrow t depth items)))

  bare_tables : (items : List FromItem) → leg_tables (map (bare_leg catalog) items) ≡ map (table_place_of catalog) items
  bare_tables [] = refl
  bare_tables (item ∷ items) = ap (λ l. table_place_of catalog item ∷ l) (bare_tables items)

  pub all_sorted : (reach : List Placed) (depth : ℕ) (items : List FromItem) (xs ys : List (Expr ColumnLeaf)) (bare half new : Sorted) → bare.first ≡ [] → bare.legs.items
      ≡ map (bare_leg catalog) items
      → Adds catalog reach depth xs bare half → Adds catalog reach depth ys half new → SortsAll catalog reach (xs ++ ys) new
  all_sorted reach depth items xs ys bare half new none legs first second = λ test.
      (adds_more catalog reach depth xs ys bare half new first second).all test
      ∙ ap (λ b. b && list_all (λ e. test (mapped (leaf_expr_of catalog reach) e)) (xs ++ ys))
      (ap (λ l. all_pass test l bare.legs.items) none ∙ ap (all_pass test []) legs ∙ bare_passes test items)

  pub sorted_tables : (reach : List Placed) (depth : ℕ) (items : List FromItem) (xs ys : List (Expr ColumnLeaf)) (bare half new : Sorted) → bare.legs.items
      ≡ map (bare_leg catalog) items
      → Adds catalog reach depth xs bare half → Adds catalog reach depth ys half new → leg_tables new.legs.items ≡ map (table_place_of catalog) items
  sorted_tables reach depth items xs ys bare half new legs first second = second.tables ∙ first.tables ∙ ap leg_tables legs ∙ bare_tables items

plain_out : (x : Conjunct) (e : Expr ColumnLeaf) → x ≡ cv.Plain e → plain_at (out-Conjunct x) ≡ e ∷ []
plain_out x e is = ap (λ z. plain_at (out-Conjunct z)) (is ∙ sym (cv.rolls-Plain e)) ∙ ap plain_at (out-roll-Conjunct (Conjunct-F.Plain e))

pub plain_alone : (p : Expr ColumnLeaf → Bool) (x : Conjunct) (e : Expr ColumnLeaf) → x ≡ cv.Plain e → list_all p (plain_at (out-Conjunct x)) ≡ true → p e ≡ true
plain_alone p x e is h = (and_parts (p e) true (sym (ap (list_all p) (plain_out x e is)) ∙ h)).0

pub if_ok : {A E : Type 0} (r : Result A E) (P Q : A → Type 0) → ((x : A) → P x → Q x) → IfOk r P → IfOk r Q
if_ok (Ok x) P Q f h = f x h
if_ok (Err e) P Q f h = tt
