-- What the stages of a select find is what the select means.
use Rattle.std.proofs.Common.{◌≡◌, ℕ, suc, ◌+◌, ◌-◌, ◌<◌, ◌≤◌, ◌^◌, cond, ◌&&◌, Bool, true, false, List, [], ◌∷◌, ◌++◌, map, length, get_or, refl, sym, ap, subst, ◌∙◌, arith}
use Rattle.std.specs.Prelude.{filter, flat_map, is_some}
use Rattle.std.specs.List.{list_all, AllByRecursion}
use Rattle.std.proofs.lemmas.Bool.{and_parts}
use Rattle.std.proofs.lemmas.List.{map-append, length-append}
use Rattle.std.proofs.lemmas.List.Folds.{list_all-append}
use Rattle.pgq_base.specs.Instances.{RowValues, TableRows, InstanceRows, rows_at}
use Rattle.pgq_base.specs.Values.{IsOf}
use Rattle.expr_tree.specs.declared.tree.Expr.{Expr}
use Rattle.expr_tree.specs.Classes.{same_class, class_in, well_classed}
use Rattle.expr_tree.specs.Leaves.{leaves_in}
use Rattle.expr_tree.specs.Mapping.{mapped}
use Rattle.expr_tree.specs.Meaning.{truth_of_value}
use Rattle.pgq_base.specs.declared.value.Class.TheVariants.{Truth as TruthClass}
use Rattle.graph_ast.specs.declared.catalog.Catalog.{Catalog}
use Rattle.sql_algebra.specs.declared.tree.FromItem.{FromItem}
use Rattle.sql_algebra.specs.declared.tree.ColumnLeaf.{ColumnLeaf}
use Rattle.sql_algebra.specs.declared.tree.Select.{Select}
use Rattle.sql_algebra.specs.declared.tree.SelectColumn.{SelectColumn}
use Rattle.sql_algebra.specs.Catalogs.{table_named}
use Rattle.sql_algebra.specs.declared.tree.Conjunct.{Conjunct, Conjunct-F, out-Conjunct, roll-Conjunct, roll-out-Conjunct, fold-roll-Conjunct}
use Rattle.sql_algebra.specs.Tuples.{Bound, Tuple, leaf_value, holds, is_true, all_members}
use Rattle.sql_algebra.specs.Meaning as m
use Rattle.sql_algebra.specs.Meaning.{has_none, select_holds, select_rows, conjunct_holds}
use Rattle.sql_algebra.specs.Soundness as s
use Rattle.sql_algebra.specs.Soundness.{Reach, leaf_is_sound, leaf_class, value_is_sound, condition_is_sound, select_is_sound}
use Rattle.sql_algebra.proofs.Folds.{conjunct_is_sound, select_sound}
use Rattle.row_eval.specs.declared.frame.Slot.{Slot}
use Rattle.row_eval.specs.declared.frame.Condition.{Condition}
use Rattle.row_eval.specs.declared.legs.Leg.{Leg}
use Rattle.row_eval.specs.Slots.{Stack, is_kept}
use Rattle.row_eval.specs.Stages.{all_kept}
use Rattle.row_eval.specs.Joins.{chain_found}
use Rattle.row_eval.specs.Levels.{level_in}
use Rattle.row_eval.specs.Scopes.{Placed, own_places, reach_under, AreBelow, tuple_of, leaf_expr_of}
use Rattle.row_eval.specs.Sorted.{each_passes, all_pass, AreDecidedAt, IsSorted, leg_ways, AreNarrow}
use Rattle.row_eval.specs.Typed.{MeetsTypes, IsTyped}
use Rattle.row_eval.specs.Plans.{items_in, plain_at, conditions_in, is_absent_at, all_absent, kept_by}
use Rattle.row_eval.proofs.ChainLemmas.{condition_holds, chain_plain, levels_of, chain_means}
use Rattle.row_eval.proofs.NarrowLemmas.{narrowed_chain}
use Rattle.row_eval.proofs.ChainReach.{aliases, Differ, members_sound, both_true}
use Rattle.row_eval.proofs.LevelLemmas.{decided}
use Rattle.row_eval.proofs.ScopeLemmas.{resolved_value}
use Rattle.row_eval.proofs.Staged.{Level, Decided, kept, all_tests, choices}
use Rattle.row_eval.proofs.TupleLemmas.{rows_choices, tables_of, bound_at, map_map, all_tuples}
use Rattle.row_eval.proofs.TypedLemmas.{items_of, typed_leaf, typed_under}

-- ---- lists

pub all_map : {X Y : Type 0} (P : Y → Type 0) (f : X → Y) (xs : List X) → AllByRecursion P (map f xs) → AllByRecursion (λ x. P (f x)) xs
all_map P f [] h = tt
all_map P f (x ∷ xs) h = (h.0, all_map P f xs h.1)

to_map : {X Y : Type 0} (P : Y → Type 0) (f : X → Y) (xs : List X) → AllByRecursion (λ x. P (f x)) xs → AllByRecursion P (map f xs)
to_map P f [] h = tt
to_map P f (x ∷ xs) h = (h.0, to_map P f xs h.1)

all_two : {X : Type 0} (P Q R : X → Type 0) → ((x : X) → P x → Q x → R x) → (xs : List X) → AllByRecursion P xs → AllByRecursion Q xs → AllByRecursion R xs
all_two P Q R f [] h k = tt
all_two P Q R f (x ∷ xs) h k = (f x h.0 k.0, all_two P Q R f xs h.1 k.1)

all_append : {X : Type 0} (P : X → Type 0) (xs ys : List X) → AllByRecursion P xs → AllByRecursion P ys → AllByRecursion P (xs ++ ys)
all_append P [] ys h k = k
all_append P (x ∷ xs) ys h k = (h.0, all_append P xs ys h.1 k)

map_filter : {X Y : Type 0} (f : X → Y) (q : Y → Bool) (xs : List X) → map f (filter (λ x. q (f x)) xs) ≡ filter q (map f xs)
map_filter f q [] = refl
map_filter {X} {Y} f q (x ∷ xs) = by (q (f x)) (map_filter f q xs)
  where
    by : (b : Bool) → map f (filter (λ y. q (f y)) xs) ≡ filter q (map f xs) → map f (cond b (x ∷ filter (λ y. q (f y)) xs) (filter (λ y. q (f y)) xs))
        ≡ cond b (f x ∷ filter q (map f xs)) (filter q (map f xs))
    by true h = ap (λ l. f x ∷ l) h
    by false h = h

filter_same : {X : Type 0} (p q : X → Bool) (xs : List X) → AllByRecursion (λ x. p x ≡ q x) xs → filter p xs ≡ filter q xs
filter_same p q [] h = refl
filter_same p q (x ∷ xs) h =
    ap (λ b. cond b (x ∷ filter p xs) (filter p xs)) h.0 ∙ ap (λ l. cond (q x) (x ∷ l) l) (filter_same p q xs h.1)

-- the ends behind what is kept
ends : (p a : Stack → Bool) (f : Stack → List Stack) (xs : List Stack) → AllByRecursion (λ t. f t ≡ cond (a t) (t ∷ []) []) xs → flat_map f (filter p xs)
    ≡ filter (λ t. p t && a t) xs
ends p a f [] h = refl
ends p a f (t ∷ ts) h = by (p t) (a t) h.0 (ends p a f ts h.1)
  where
    by : (b c : Bool) → f t ≡ cond c (t ∷ []) [] → flat_map f (filter p ts) ≡ filter (λ t. p t && a t) ts
        → flat_map f (cond b (t ∷ filter p ts) (filter p ts)) ≡ cond (b && c) (t ∷ filter (λ t. p t && a t) ts) (filter (λ t. p t && a t) ts)
    by true true e k = ap (λ l. l ++ flat_map f (filter p ts)) e ∙ ap (λ l. t ∷ l) k
    by true false e k = ap (λ l. l ++ flat_map f (filter p ts)) e ∙ k
    by false c e k = k

none_kept : {X : Type 0} (p : X → Bool) (xs : List X) → filter (λ x. false && p x) xs ≡ []
none_kept p [] = refl
none_kept p (x ∷ xs) = none_kept p xs

under_first : (b : Bool) (p : Stack → Bool) (xs : List Stack) → cond b (filter p xs) [] ≡ filter (λ t. b && p t) xs
under_first true p xs = refl
under_first false p xs = sym (none_kept p xs)

-- ---- conditions that are sorted are decided

pub kept_decided : (s more : Stack) (tests : List Condition) → length s < 2 ^ 64 - 1 → AllByRecursion (λ (c : Condition). level_in c.expr ≤ length s) tests
    → all_kept tests (s ++ more) ≡ all_kept tests s
kept_decided s more [] small h = refl
kept_decided s more (c ∷ cs) small h =
    ap (λ b. b && all_kept cs (s ++ more)) (decided s more c.expr small h.0) ∙ ap (λ b. is_kept s c.expr && b) (kept_decided s more cs small h.1)

at_most : (n m : ℕ) (tests : List Condition) → n ≡ m → AllByRecursion (λ (c : Condition). level_in c.expr ≡ n) tests → AllByRecursion (λ (c : Condition). level_in c.expr ≤ m) tests
at_most n m [] e h = tt
at_most n m (c ∷ cs) e h = (let k = h.0 in omega (arith, k, e), at_most n m cs e h.1)

legs_decided : (instance : InstanceRows) (legs : List Leg) (depth : ℕ) → depth + length legs < 2 ^ 64 - 1 → AreDecidedAt depth legs
    → Decided condition_holds depth (levels_of instance legs)
legs_decided instance [] depth small h = tt
legs_decided instance (leg ∷ legs) depth small h = (
  λ stack more long. kept_decided stack more leg.tests (omega (arith, long, small)) (at_most (suc depth) (length stack) leg.tests (sym long) h.0),
  legs_decided instance legs
      (suc depth) (omega (arith, small)) h.1,
)

-- the tests of all legs
tests_pass : (instance : InstanceRows) (t : Stack) (legs : List Leg) → kept condition_holds (all_tests condition_holds (levels_of instance legs)) t
    ≡ list_all (λ (leg : Leg). each_passes (is_kept t) leg.tests) legs
tests_pass instance t [] = refl
tests_pass instance t (leg ∷ legs) =
    list_all-append (condition_holds t) leg.tests (all_tests condition_holds (levels_of instance legs))
    ∙ ap (λ b. each_passes (is_kept t) leg.tests && b) (tests_pass instance t legs)

level_rows : (instance : InstanceRows) (legs : List Leg) → map (λ (l : Level condition_holds). l.rows) (levels_of instance legs)
    ≡ map (λ (leg : Leg). rows_at instance leg.table) legs
level_rows instance [] = refl
level_rows instance (leg ∷ legs) = ap (λ l. rows_at instance leg.table ∷ l) (level_rows instance legs)

-- ---- a chain behind what is decided before it, as one filter

module _ (instance : InstanceRows) (first : List Condition) (legs : List Leg) (tables : List TableRows) (s : Stack) (f : Stack → List Stack) (a : Stack → Bool) where
  abbrev pub stacks : List Stack
  stacks = map (λ rest. s ++ rest) (rows_choices tables)

  first_same : IsSorted (length s) first legs → length s < 2 ^ 64 - 1 → (rests : List Stack)
      → AllByRecursion (λ t. ((all_kept first s && (list_all (λ (leg : Leg). each_passes (is_kept t) leg.tests) legs && a t))) ≡ (all_pass (is_kept t) first legs && a t))
      (map (λ rest. s ++ rest) rests)
  first_same sorted small [] = tt
  first_same sorted small (rest ∷ rests) = (
    ap (λ b. b && (list_all (λ (leg : Leg). each_passes (is_kept (s ++ rest)) leg.tests) legs && a (s ++ rest))) (sym (kept_decided s rest first small sorted.first))
        ∙ and_assoc (all_kept first (s ++ rest)) (list_all (λ (leg : Leg). each_passes (is_kept (s ++ rest)) leg.tests) legs) (a (s ++ rest)),
    first_same sorted small rests,
  )
    where
      and_assoc : (x y z : Bool) → (x && (y && z)) ≡ ((x && y) && z)
      and_assoc true y z = refl
      and_assoc false y z = refl

  plain_filter : IsSorted (length s) first legs → length s + length legs < 2 ^ 64 - 1 → map (λ (leg : Leg). rows_at instance leg.table) legs ≡ tables
      → AllByRecursion (λ t. f t ≡ cond (a t) (t ∷ []) []) stacks
      → cond (all_kept first s) (chain_plain instance legs f s) [] ≡ filter (λ t. all_pass (is_kept t) first legs && a t) stacks
  plain_filter sorted small same each_end =
      ap (λ x. cond (all_kept first s) x [])
      (chain_means instance legs f (length s) s refl (legs_decided instance legs (length s) small sorted.legs)
      ∙ ap (λ x. flat_map f (filter (kept condition_holds (all_tests condition_holds (levels_of instance legs))) (map (λ rest. s ++ rest) (choices condition_holds x))))
      (level_rows instance legs ∙ same)
      ∙ ends (kept condition_holds (all_tests condition_holds (levels_of instance legs))) a f stacks each_end
      ∙ filter_same (λ t. kept condition_holds (all_tests condition_holds (levels_of instance legs)) t && a t)
      (λ t. list_all (λ (leg : Leg). each_passes (is_kept t) leg.tests) legs && a t) stacks
      (everywhere (λ t. ap (λ b. b && a t) (tests_pass instance t legs)) stacks))
      ∙ under_first (all_kept first s) (λ t. list_all (λ (leg : Leg). each_passes (is_kept t) leg.tests) legs && a t) stacks
      ∙ filter_same (λ t. all_kept first s && (list_all (λ (leg : Leg). each_passes (is_kept t) leg.tests) legs && a t)) (λ t. all_pass (is_kept t) first legs && a t) stacks
      (first_same sorted (omega (arith, small)) (rows_choices tables))
    where
      everywhere : {P : Stack → Type 0} → ((t : Stack) → P t) → (ts : List Stack) → AllByRecursion P ts
      everywhere h [] = tt
      everywhere h (t ∷ ts) = (h t, everywhere h ts)

  pub chain_filter : IsSorted (length s) first legs → ((t : Stack) → all_pass (is_kept t) first legs ≡ true → AreNarrow t (length s) (leg_ways legs))
      → length s + length legs < 2 ^ 64 - 1 → map (λ (leg : Leg). rows_at instance leg.table) legs ≡ tables
      → AllByRecursion (λ t. f t ≡ cond (a t) (t ∷ []) []) stacks
      → cond (all_kept first s) (chain_found instance legs f s) [] ≡ filter (λ t. all_pass (is_kept t) first legs && a t) stacks
  chain_filter sorted narrow small same each_end =
      under (all_kept first s) (chain_found instance legs f s) (chain_plain instance legs f s)
      (λ here. narrowed_chain instance f legs (length s) s refl (legs_decided instance legs (length s) small sorted.legs)
      (λ u h. narrow (s ++ u)
      (both_true (each_passes (is_kept (s ++ u)) first) (list_all (λ (leg : Leg). each_passes (is_kept (s ++ u)) leg.tests) legs)
      (kept_decided s u first (omega (arith, small)) sorted.first ∙ here) (sym (tests_pass instance (s ++ u) legs) ∙ h))))
      ∙ plain_filter sorted small same each_end
    where
      under : (b : Bool) (x y : List Stack) → (b ≡ true → x ≡ y) → cond b x [] ≡ cond b y []
      under true x y h = h refl
      under false x y h = refl

-- ---- lengths

choices_long : (tables : List TableRows) → AllByRecursion (λ rest. length rest ≡ length tables) (rows_choices tables)
choices_long [] = (refl, tt)
choices_long (rows ∷ tables) = each rows (choices_long tables)
  where
    with_row : (row : RowValues) (rests : List Stack) → AllByRecursion (λ rest. length rest ≡ length tables) rests
        → AllByRecursion (λ rest. length rest ≡ suc (length tables)) (map (λ rest. row ∷ rest) rests)
    with_row row [] h = tt
    with_row row (rest ∷ rests) h = (ap suc h.0, with_row row rests h.1)

    each : (rows : TableRows) → AllByRecursion (λ rest. length rest ≡ length tables) (rows_choices tables)
        → AllByRecursion (λ rest. length rest ≡ suc (length tables)) (flat_map (λ row. map (λ rest. row ∷ rest) (rows_choices tables)) rows)
    each [] h = tt
    each (row ∷ rows) h = all_append (λ rest. length rest ≡ suc (length tables)) (map (λ rest. row ∷ rest) (rows_choices tables)) _ (with_row row (rows_choices tables) h)
        (each rows h)

own_long : (place : ℕ) (items : List FromItem) → length (own_places place items) ≡ length items
own_long place [] = refl
own_long place (item ∷ items) = ap suc (own_long (suc place) items)

pub reach_long : (items : List FromItem) (outer : List Placed) → length (reach_under items outer) ≡ length items + length outer
reach_long items outer = length-append (own_places (length outer) items) outer ∙ ap (λ n. n + length outer) (own_long (length outer) items)

tables_long : (catalog : Catalog) (instance : InstanceRows) (items : List FromItem) → length (tables_of catalog instance items) ≡ length items
tables_long catalog instance [] = refl
tables_long catalog instance (item ∷ items) = ap suc (tables_long catalog instance items)

own_items : (place : ℕ) (items : List FromItem) → items_in (own_places place items) ≡ items
own_items place [] = refl
own_items place (item ∷ items) = ap (λ l. item ∷ l) (own_items (suc place) items)

pub reach_items : (items : List FromItem) (outer : List Placed) → items_in (reach_under items outer) ≡ items ++ items_in outer
reach_items items outer = map-append (λ (r : Placed). r.item) (own_places (length outer) items) outer ∙ ap (λ l. l ++ items_in outer) (own_items (length outer) items)

tuple_items : (reach : List Placed) (t : Stack) → items_of (tuple_of reach t) ≡ items_in reach
tuple_items reach t = map_map (λ (b : Bound). b.item) (λ (r : Placed). bound_at r.item (get_or t r.place [])) reach

-- ---- what is sound means the same of the stack

list_each : {X : Type 0} (p : X → Bool) (P : X → Type 0) → ((x : X) → p x ≡ true → P x) → (xs : List X) → list_all p xs ≡ true → AllByRecursion P xs
list_each p P f [] h = tt
list_each p P f (x ∷ xs) h = let two = and_parts (p x) (list_all p xs) h in (f x two.0, list_each p P f xs two.1)

pub typed_leaves : (catalog : Catalog) (reach : List Placed) (t : Stack) → IsTyped catalog (tuple_of reach t) → (e : Expr ColumnLeaf)
    → value_is_sound catalog (items_in reach) e ≡ true
    → AllByRecursion (λ (l : ColumnLeaf). IsOf l.class (leaf_value catalog (tuple_of reach t) l)) (leaves_in e)
typed_leaves catalog reach t typed e sound =
    list_each (leaf_is_sound catalog (items_in reach)) _
    (λ l h. typed_leaf catalog (tuple_of reach t) l typed (ap (λ items. leaf_is_sound catalog items l) (tuple_items reach t) ∙ h)) (leaves_in e)
    (and_parts (list_all (leaf_is_sound catalog (items_in reach)) (leaves_in e)) (well_classed leaf_class e) sound).0

pub means : (catalog : Catalog) (reach : List Placed) (t : Stack) → IsTyped catalog (tuple_of reach t) → (e : Expr ColumnLeaf) → condition_is_sound catalog (items_in reach) e
    ≡ true
    → is_kept t (mapped (leaf_expr_of catalog reach) e) ≡ holds catalog (tuple_of reach t) e
means catalog reach t typed e sound =
    ap (λ v. is_true (truth_of_value v))
    (resolved_value catalog t reach e
    (typed_leaves catalog reach t typed e (and_parts (value_is_sound catalog (items_in reach) e) (same_class TruthClass (class_in leaf_class e)) sound).0))

pub all_mean : (catalog : Catalog) (reach : List Placed) (t : Stack) → IsTyped catalog (tuple_of reach t) → (es : List (Expr ColumnLeaf))
    → list_all (condition_is_sound catalog (items_in reach)) es ≡ true
    → list_all (λ e. is_kept t (mapped (leaf_expr_of catalog reach) e)) es ≡ list_all (holds catalog (tuple_of reach t)) es
all_mean catalog reach t typed [] sound = refl
all_mean catalog reach t typed (e ∷ es) sound =
    let two = and_parts (condition_is_sound catalog (items_in reach) e) (list_all (condition_is_sound catalog (items_in reach)) es) sound in
    ap (λ b. b && list_all (λ e. is_kept t (mapped (leaf_expr_of catalog reach) e)) es) (means catalog reach t typed e two.0)
    ∙ ap (λ b. holds catalog (tuple_of reach t) e && b) (all_mean catalog reach t typed es two.1)

-- ---- conjuncts

module _ (catalog : Catalog) (instance : InstanceRows) (tuple : Tuple) where
  conjunct_parts : (c : Conjunct) → conjunct_holds catalog instance c tuple
      ≡ (list_all (holds catalog tuple) (plain_at (out-Conjunct c)) && is_absent_at catalog instance tuple (out-Conjunct c))
  conjunct_parts c = ap (λ x. conjunct_holds catalog instance x tuple) (sym (roll-out-Conjunct c)) ∙ by (out-Conjunct c)
    where
      and_trues : (b : Bool) → b ≡ ((b && true) && true)
      and_trues true = refl
      and_trues false = refl

      by : (x : Conjunct-F Conjunct Select) → conjunct_holds catalog instance (roll-Conjunct x) tuple
          ≡ (list_all (holds catalog tuple) (plain_at x) && is_absent_at catalog instance tuple x)
      by (Conjunct-F.Plain e) =
          ap (λ f. f tuple) (fold-roll-Conjunct (Tuple → Bool) (Tuple → TableRows) (m.conjunct_step catalog) (m.select_step catalog instance) (Conjunct-F.Plain e))
          ∙ and_trues (holds catalog tuple e)
      by (Conjunct-F.NotExists select) =
          ap (λ f. f tuple) (fold-roll-Conjunct (Tuple → Bool) (Tuple → TableRows) (m.conjunct_step catalog) (m.select_step catalog instance) (Conjunct-F.NotExists select))

  and_pairs : (p r a q : Bool) → ((p && r) && (a && q)) ≡ ((p && a) && (r && q))
  and_pairs true true a q = and_one a q
    where
      and_one : (a q : Bool) → (a && q) ≡ (a && (true && q))
      and_one true q = refl
      and_one false q = refl
  and_pairs true false true q = refl
  and_pairs true false false q = refl
  and_pairs false r a q = refl

  conjuncts_parts : (cs : List Conjunct) → (list_all (holds catalog tuple) (flat_map (λ c. plain_at (out-Conjunct c)) cs) && all_absent catalog instance cs tuple)
      ≡ list_all (λ conjunct. conjunct tuple) (map (conjunct_holds catalog instance) cs)
  conjuncts_parts [] = refl
  conjuncts_parts (c ∷ cs) =
      ap (λ b. b && (is_absent_at catalog instance tuple (out-Conjunct c) && all_absent catalog instance cs tuple))
      (list_all-append (holds catalog tuple) (plain_at (out-Conjunct c)) (flat_map (λ c. plain_at (out-Conjunct c)) cs))
      ∙ and_pairs (list_all (holds catalog tuple) (plain_at (out-Conjunct c))) (list_all (holds catalog tuple) (flat_map (λ c. plain_at (out-Conjunct c)) cs))
      (is_absent_at catalog instance tuple (out-Conjunct c)) (all_absent catalog instance cs tuple)
      ∙ ap (λ b. b && (list_all (holds catalog tuple) (flat_map (λ c. plain_at (out-Conjunct c)) cs) && all_absent catalog instance cs tuple)) (sym (conjunct_parts c))
      ∙ ap (λ b. conjunct_holds catalog instance c tuple && b) (conjuncts_parts cs)

  select_parts : (select : Select) → (list_all (holds catalog tuple) (conditions_in select.from select.conjuncts) && all_absent catalog instance select.conjuncts tuple)
      ≡ select_holds catalog (record { columns = select.columns; from = select.from; conjuncts = map (conjunct_holds catalog instance) select.conjuncts }) tuple
  select_parts select =
      ap (λ b. b && all_absent catalog instance select.conjuncts tuple)
      (list_all-append (holds catalog tuple) (all_members select.from) (flat_map (λ c. plain_at (out-Conjunct c)) select.conjuncts))
      ∙ and_last (list_all (holds catalog tuple) (all_members select.from)) (list_all (holds catalog tuple) (flat_map (λ c. plain_at (out-Conjunct c)) select.conjuncts))
      (all_absent catalog instance select.conjuncts tuple)
      ∙ ap (λ b. list_all (holds catalog tuple) (all_members select.from) && b) (conjuncts_parts select.conjuncts)
    where
      and_last : (x y z : Bool) → ((x && y) && z) ≡ (x && (y && z))
      and_last true y z = refl
      and_last false y z = refl

-- ---- what a sound select gives

-- what a select owes to be sound
pub record SoundParts (catalog : Catalog) (select : Select) (outer : Reach) : Type 0 where
  pub known : list_all (λ (item : FromItem). is_some (table_named catalog item.table)) select.from ≡ true
  pub differ : Differ outer select.from
  pub columns : list_all (λ (column : SelectColumn). value_is_sound catalog (select.from ++ outer) column.value) select.columns ≡ true
  pub conditions : list_all (condition_is_sound catalog (select.from ++ outer)) (conditions_in select.from select.conjuncts) ≡ true
  pub conjuncts : list_all (λ conjunct. conjunct (select.from ++ outer)) (map (conjunct_is_sound catalog) select.conjuncts) ≡ true

plain_sound : (catalog : Catalog) (reach : Reach) (c : Conjunct) → conjunct_is_sound catalog c reach ≡ true
    → list_all (condition_is_sound catalog reach) (plain_at (out-Conjunct c)) ≡ true
plain_sound catalog reach c h = by (out-Conjunct c) (ap (λ x. conjunct_is_sound catalog x reach) (roll-out-Conjunct c) ∙ h)
  where
    by : (x : Conjunct-F Conjunct Select) → conjunct_is_sound catalog (roll-Conjunct x) reach ≡ true → list_all (condition_is_sound catalog reach) (plain_at x) ≡ true
    by (Conjunct-F.Plain e) k =
        ap (λ b. b && true) (sym (ap (λ f. f reach) (fold-roll-Conjunct (Reach → Bool) (Reach → Bool) (s.conjunct_step catalog) (s.select_step catalog) (Conjunct-F.Plain e))) ∙ k)
    by (Conjunct-F.NotExists select) k = refl

plains_sound : (catalog : Catalog) (reach : Reach) (cs : List Conjunct) → list_all (λ conjunct. conjunct reach) (map (conjunct_is_sound catalog) cs) ≡ true
    → list_all (condition_is_sound catalog reach) (flat_map (λ c. plain_at (out-Conjunct c)) cs) ≡ true
plains_sound catalog reach [] h = refl
plains_sound catalog reach (c ∷ cs) h =
    let two = and_parts (conjunct_is_sound catalog c reach) (list_all (λ conjunct. conjunct reach) (map (conjunct_is_sound catalog) cs)) h in
    list_all-append (condition_is_sound catalog reach) (plain_at (out-Conjunct c)) (flat_map (λ c. plain_at (out-Conjunct c)) cs)
    ∙ both_true _ _ (plain_sound catalog reach c two.0) (plains_sound catalog reach cs two.1)

pub sound_parts : (catalog : Catalog) (select : Select) (outer : Reach) → select_is_sound catalog select outer ≡ true → SoundParts catalog select outer
sound_parts catalog select outer h =
    let reach = select.from ++ outer in
    let known = list_all (λ (item : FromItem). is_some (table_named catalog item.table)) select.from in
    let differ = s.differ_from (aliases outer) (aliases select.from) in
    let names = s.differ_from [] (map (λ (column : SelectColumn). column.name) select.columns) in
    let columns = list_all (λ (column : SelectColumn). value_is_sound catalog reach column.value) select.columns in
    let ons = s.ons_are_sound catalog outer [] select.from in
    let conjuncts = list_all (λ conjunct. conjunct reach) (map (conjunct_is_sound catalog) select.conjuncts) in
    let all : (known && differ && names && columns && ons && conjuncts) ≡ true = sym (ap (λ f. f outer) (select_sound catalog select)) ∙ h in
    let p = and_parts (known && differ && names && columns && ons) conjuncts all in
    let q = and_parts (known && differ && names && columns) ons p.0 in
    let r = and_parts (known && differ && names) columns q.0 in
    let t = and_parts (known && differ) names r.0 in
    let u = and_parts known differ t.0 in
    record {
      known = u.0;
      differ = u.1;
      columns = r.1;
      conditions = list_all-append (condition_is_sound catalog reach) (all_members select.from) (flat_map (λ c. plain_at (out-Conjunct c)) select.conjuncts)
          ∙ both_true _ _ (members_sound catalog outer [] [] select.from u.1 q.1) (plains_sound catalog reach select.conjuncts p.1);
      conjuncts = p.1;
    }

-- ---- the select

module _ (catalog : Catalog) (instance : InstanceRows) (meets : MeetsTypes catalog instance) (select : Select) (outer : List Placed)
    (sound : select_is_sound catalog select (items_in outer) ≡ true)
    (below : AreBelow (length outer) outer) where
  abbrev pub whole : List Placed
  whole = reach_under select.from outer

  module _ (stack : Stack) (long : length stack ≡ length outer) (typed : IsTyped catalog (tuple_of outer stack)) where
    abbrev pub found_stacks : List Stack
    found_stacks = map (λ rest. stack ++ rest) (rows_choices (tables_of catalog instance select.from))

    pub typed_stacks : AllByRecursion (λ t. IsTyped catalog (tuple_of whole t)) found_stacks
    typed_stacks =
        to_map (λ t. IsTyped catalog (tuple_of whole t)) (λ rest. stack ++ rest) (rows_choices (tables_of catalog instance select.from))
        (all_map (IsTyped catalog) (λ rest. tuple_of whole (stack ++ rest)) (rows_choices (tables_of catalog instance select.from))
        (subst (AllByRecursion (IsTyped catalog)) (sym (all_tuples catalog instance select.from outer stack long below))
        (typed_under catalog instance meets select.from (tuple_of outer stack) typed)))

    one_long : (rest : Stack) → length rest ≡ length (tables_of catalog instance select.from) → length (stack ++ rest) ≡ length whole
    one_long rest h = omega (arith, length-append stack rest, h, tables_long catalog instance select.from, reach_long select.from outer, long)

    pub long_stacks : AllByRecursion (λ t. length t ≡ length whole) found_stacks
    long_stacks =
        to_map (λ t. length t ≡ length whole) (λ rest. stack ++ rest) (rows_choices (tables_of catalog instance select.from))
        (each_longer (rows_choices (tables_of catalog instance select.from)) (choices_long (tables_of catalog instance select.from)))
      where
        each_longer : (rests : List Stack) → AllByRecursion (λ rest. length rest ≡ length (tables_of catalog instance select.from)) rests
            → AllByRecursion (λ rest. length (stack ++ rest) ≡ length whole) rests
        each_longer [] h = tt
        each_longer (rest ∷ rests) h = (one_long rest h.0, each_longer rests h.1)

    pub select_found : (first : List Condition) (legs : List Leg) (f : Stack → List Stack) → length outer + length legs < 2 ^ 64 - 1 → IsSorted (length outer) first legs
        → ((t : Stack) → all_pass (is_kept t) first legs ≡ true → AreNarrow t (length outer) (leg_ways legs))
        → map (λ (leg : Leg). rows_at instance leg.table) legs ≡ tables_of catalog instance select.from
        → ((test : Expr Slot → Bool) → all_pass test first legs ≡ list_all (λ e. test (mapped (leaf_expr_of catalog whole) e)) (conditions_in select.from select.conjuncts))
        → ((t : Stack) → length t ≡ length whole → IsTyped catalog (tuple_of whole t) → f t ≡ cond (all_absent catalog instance select.conjuncts (tuple_of whole t)) (t ∷ []) [])
        → map (tuple_of whole) (cond (all_kept first stack) (chain_found instance legs f stack) []) ≡ kept_by catalog instance select (tuple_of outer stack)
    select_found first legs f small sorted narrow tables each_condition each_end =
        let H = select_holds catalog (record { columns = select.columns; from = select.from; conjuncts = map (conjunct_holds catalog instance) select.conjuncts }) in
        let parts = sound_parts catalog select (items_in outer) sound in
        let sound_conditions = subst (λ items. list_all (condition_is_sound catalog items) (conditions_in select.from select.conjuncts) ≡ true)
        (sym (reach_items select.from outer)) parts.conditions in
        ap (map (tuple_of whole))
        (chain_filter instance first legs (tables_of catalog instance select.from) stack f (λ t. all_absent catalog instance select.conjuncts (tuple_of whole t))
        (subst (λ n. IsSorted n first legs) (sym long) sorted) (λ t h. subst (λ n. AreNarrow t n (leg_ways legs)) (sym long) (narrow t h))
        (subst (λ n. n + length legs < 2 ^ 64 - 1) (sym long) small) tables
        (all_two (λ t. length t ≡ length whole) (λ t. IsTyped catalog (tuple_of whole t))
        (λ t. f t ≡ cond (all_absent catalog instance select.conjuncts (tuple_of whole t)) (t ∷ []) []) each_end found_stacks long_stacks typed_stacks)
        ∙ filter_same (λ t. all_pass (is_kept t) first legs && all_absent catalog instance select.conjuncts (tuple_of whole t)) (λ t. H (tuple_of whole t)) found_stacks
        (all_two (λ t. IsTyped catalog (tuple_of whole t)) (λ t. IsTyped catalog (tuple_of whole t))
        (λ t. (all_pass (is_kept t) first legs && all_absent catalog instance select.conjuncts (tuple_of whole t)) ≡ H (tuple_of whole t))
        (λ t h k. ap (λ b. b && all_absent catalog instance select.conjuncts (tuple_of whole t))
        (each_condition (is_kept t) ∙ all_mean catalog whole t h (conditions_in select.from select.conjuncts) sound_conditions)
        ∙ select_parts catalog instance (tuple_of whole t) select) found_stacks typed_stacks typed_stacks))
        ∙ map_filter (tuple_of whole) H found_stacks
        ∙ ap (filter H) (map_map (tuple_of whole) (λ rest. stack ++ rest) (rows_choices (tables_of catalog instance select.from))
        ∙ all_tuples catalog instance select.from outer stack long below)
