-- What is sound within the chain of an ON is sound within the whole FROM, since no alias in reach stands twice.
use Rattle.std.proofs.Common.{◌≡◌, ℕ, cond, ◌&&◌, ◌||◌, not, Bool, true, false, List, [], ◌∷◌, ◌++◌, map, refl, sym, ap, subst, ◌∙◌, Option, Some, None, append_assoc}
use Rattle.std.specs.Prelude.{find, bytes_eq, is_some}
use Rattle.std.specs.List.{list_all}
use Rattle.std.proofs.lemmas.Bool.{and_parts}
use Rattle.std.proofs.lemmas.List.Folds.{list_all-append}
use Rattle.std.specs.Cmp.Lexicographic.{bytes_decides}
use Rattle.expr_tree.specs.declared.tree.Expr.{Expr}
use Rattle.expr_tree.specs.Classes.{same_class, class_in, well_classed}
use Rattle.expr_tree.specs.Leaves.{leaves_in}
use Rattle.pgq_base.specs.declared.value.Class.TheVariants.{Truth as TruthClass}
use Rattle.graph_ast.specs.declared.catalog.Catalog.{Catalog}
use Rattle.sql_algebra.specs.declared.tree.FromItem.{FromItem}
use Rattle.sql_algebra.specs.declared.tree.ColumnLeaf.{ColumnLeaf}
use Rattle.sql_algebra.specs.Tuples.{members_of, all_members}
use Rattle.sql_algebra.specs.Soundness.{Reach, is_in, differ_from, item_has, leaf_is_sound, leaf_class, value_is_sound, condition_is_sound, chain_to, on_is_sound, ons_are_sound}
use Rattle.sql_algebra.proofs.ReachLemmas.{reached}

abbrev pub aliases : List FromItem → List (List ℕ)
aliases items = map (λ (item : FromItem). item.alias) items

abbrev pub sought : ColumnLeaf → FromItem → Bool
sought leaf item = bytes_eq item.alias leaf.alias

either_false : (a b : Bool) → (a || b) ≡ false → (a ≡ false) × (b ≡ false)
either_false true b h = absurd cc
either_false false b h = (refl, h)

pub not_true : (b : Bool) → not b ≡ true → b ≡ false
not_true true h = absurd cc
not_true false h = refl

module _ (catalog : Catalog) (leaf : ColumnLeaf) where
  -- an item whose alias is none of the reach's is not the one that is sought there
  apart : (x : FromItem) (reach : Reach) → is_in x.alias (aliases reach) ≡ false → leaf_is_sound catalog reach leaf ≡ true → sought leaf x ≡ false
  apart x reach none sound = by (sought leaf x) refl
    where
      no_item : (o : Option FromItem) → is_some o ≡ false → item_has catalog leaf o ≡ true → ⊥
      no_item None h k = let never : false ≡ true = k in cc
      no_item (Some item) h k = let never : true ≡ false = h in cc

      by : (b : Bool) → sought leaf x ≡ b → sought leaf x ≡ false
      by false e = e
      by true e =
          let same : x.alias ≡ leaf.alias = (bytes_decides x.alias leaf.alias).0 e in
          absurd (no_item (find (sought leaf) reach) (reached leaf.alias reach ∙ ap (λ n. is_in n (aliases reach)) (sym same) ∙ none) sound)

  -- the items before a reach, each of another alias
  abbrev pub IsApart : Reach → List FromItem → Bool
  IsApart reach xs = list_all (λ (x : FromItem). not (is_in x.alias (aliases reach))) xs

  sought_behind : (xs : List FromItem) (reach wider : Reach) → leaf_is_sound catalog reach leaf ≡ true → IsApart reach xs ≡ true
      → leaf_is_sound catalog wider leaf ≡ true → leaf_is_sound catalog (xs ++ wider) leaf ≡ true
  sought_behind [] reach wider sound h k = k
  sought_behind (x ∷ xs) reach wider sound h k =
      let two = and_parts (not (is_in x.alias (aliases reach))) (IsApart reach xs) h in
      ap (λ b. item_has catalog leaf (cond b (Some x) (find (sought leaf) (xs ++ wider)))) (apart x reach (not_true (is_in x.alias (aliases reach)) two.0) sound)
      ∙ sought_behind xs reach wider sound two.1 k

  -- between a chain and the outer items
  sought_between : (chain later outer : List FromItem) → IsApart outer later ≡ true → leaf_is_sound catalog (chain ++ outer) leaf ≡ true
      → leaf_is_sound catalog (chain ++ (later ++ outer)) leaf ≡ true
  sought_between [] later outer h k = sought_behind later outer outer k h k
  sought_between (x ∷ chain) later outer h k = by (sought leaf x) k (sought_between chain later outer h)
    where
      by : (b : Bool) → item_has catalog leaf (cond b (Some x) (find (sought leaf) (chain ++ outer))) ≡ true
          → (leaf_is_sound catalog (chain ++ outer) leaf ≡ true → leaf_is_sound catalog (chain ++ (later ++ outer)) leaf ≡ true)
          → item_has catalog leaf (cond b (Some x) (find (sought leaf) (chain ++ (later ++ outer)))) ≡ true
      by true k later = k
      by false k later = later k

is_in_append : (name : List ℕ) (xs ys : List (List ℕ)) → is_in name (xs ++ ys) ≡ (is_in name xs || is_in name ys)
is_in_append name [] ys = refl
is_in_append name (x ∷ xs) ys = ap (λ b. bytes_eq x name || b) (is_in_append name xs ys) ∙ or_assoc (bytes_eq x name) (is_in name xs) (is_in name ys)
  where
    or_assoc : (a b c : Bool) → (a || (b || c)) ≡ ((a || b) || c)
    or_assoc true b c = refl
    or_assoc false b c = refl

aliases_append : (xs ys : List FromItem) → aliases (xs ++ ys) ≡ aliases xs ++ aliases ys
aliases_append [] ys = refl
aliases_append (x ∷ xs) ys = ap (λ l. x.alias ∷ l) (aliases_append xs ys)

in_neither : (name : List ℕ) (xs ys : List FromItem) → is_in name (aliases xs) ≡ false → is_in name (aliases ys) ≡ false → is_in name (aliases (xs ++ ys)) ≡ false
in_neither name xs ys h k = ap (is_in name) (aliases_append xs ys) ∙ is_in_append name (aliases xs) (aliases ys) ∙ ap (λ b. b || is_in name (aliases ys)) h ∙ k

in_first : (name : List ℕ) (xs ys : List FromItem) → is_in name (aliases (xs ++ ys)) ≡ false → (is_in name (aliases xs) ≡ false) × (is_in name (aliases ys) ≡ false)
in_first name xs ys h = either_false (is_in name (aliases xs)) (is_in name (aliases ys))
    (sym (ap (is_in name) (aliases_append xs ys) ∙ is_in_append name (aliases xs) (aliases ys)) ∙ h)

-- no alias stands twice, nor among the outer ones
abbrev pub Differ : List FromItem → List FromItem → Type 0
Differ outer items = differ_from (aliases outer) (aliases items) ≡ true

module _ (outer : List FromItem) where
  first_apart : (x : FromItem) (xs : List FromItem) → Differ outer (x ∷ xs) → (is_in x.alias (aliases outer) ≡ false) × (is_in x.alias (aliases xs) ≡ false) × Differ outer xs
  first_apart x xs h =
      let one = and_parts (not (is_in x.alias (aliases outer))) (not (is_in x.alias (aliases xs)) && differ_from (aliases outer) (aliases xs)) h in
      let two = and_parts (not (is_in x.alias (aliases xs))) (differ_from (aliases outer) (aliases xs)) one.1 in
      (not_true (is_in x.alias (aliases outer)) one.0, not_true (is_in x.alias (aliases xs)) two.0, two.1)

  pub later_apart : (catalog : Catalog) (leaf : ColumnLeaf) (xs later : List FromItem) → Differ outer (xs ++ later) → IsApart catalog leaf outer later ≡ true
  later_apart catalog leaf [] [] h = refl
  later_apart catalog leaf [] (x ∷ later) h =
      let three = first_apart x later h in
      ap (λ b. not b && IsApart catalog leaf outer later) three.0 ∙ later_apart catalog leaf [] later three.2
  later_apart catalog leaf (x ∷ xs) later h = later_apart catalog leaf xs later (first_apart x (xs ++ later) h).2

  early_apart : (catalog : Catalog) (leaf : ColumnLeaf) (skipped chain later : List FromItem) → Differ outer (skipped ++ (chain ++ later))
      → IsApart catalog leaf (chain ++ outer) skipped ≡ true
  early_apart catalog leaf [] chain later h = refl
  early_apart catalog leaf (x ∷ skipped) chain later h =
      let three = first_apart x (skipped ++ (chain ++ later)) h in
      let behind = in_first x.alias skipped (chain ++ later) three.1 in
      let here = in_first x.alias chain later behind.1 in
      ap (λ b. not b && IsApart catalog leaf (chain ++ outer) skipped) (in_neither x.alias chain outer here.0 three.0) ∙ early_apart catalog leaf skipped chain later three.2

  -- a leaf that is sound in a chain is sound in the FROM
  pub leaf_in_from : (catalog : Catalog) (leaf : ColumnLeaf) (skipped chain later : List FromItem) → Differ outer (skipped ++ (chain ++ later))
      → leaf_is_sound catalog (chain ++ outer) leaf ≡ true → leaf_is_sound catalog ((skipped ++ (chain ++ later)) ++ outer) leaf ≡ true
  leaf_in_from catalog leaf skipped chain later h k =
      let within : leaf_is_sound catalog (chain ++ (later ++ outer)) leaf
      ≡ true = sought_between catalog leaf chain later outer
      (later_apart catalog leaf (skipped ++ chain) later (subst (Differ outer) (sym (append_assoc skipped chain later)) h)) k in
      ap (λ r. leaf_is_sound catalog r leaf) (append_assoc skipped (chain ++ later) outer ∙ ap (λ l. skipped ++ l) (append_assoc chain later outer))
      ∙ sought_behind catalog leaf skipped (chain ++ outer) (chain ++ (later ++ outer)) k (early_apart catalog leaf skipped chain later h) within

pub list_implies : {X : Type 0} (p q : X → Bool) → ((x : X) → p x ≡ true → q x ≡ true) → (xs : List X) → list_all p xs ≡ true → list_all q xs ≡ true
list_implies p q f [] h = refl
list_implies p q f (x ∷ xs) h = let two = and_parts (p x) (list_all p xs) h in ap (λ b. b && list_all q xs) (f x two.0) ∙ list_implies p q f xs two.1

pub both_true : (a b : Bool) → a ≡ true → b ≡ true → (a && b) ≡ true
both_true a b h k = ap (λ x. x && b) h ∙ k

-- a condition that is sound in a chain is sound in a wider reach
pub wider_condition : (catalog : Catalog) (reach wider : Reach) → ((leaf : ColumnLeaf) → leaf_is_sound catalog reach leaf ≡ true → leaf_is_sound catalog wider leaf ≡ true)
    → (e : Expr ColumnLeaf) → condition_is_sound catalog reach e ≡ true → condition_is_sound catalog wider e ≡ true
wider_condition catalog reach wider f e h =
    let one = and_parts (value_is_sound catalog reach e) (same_class TruthClass (class_in leaf_class e)) h in
    let two = and_parts (list_all (leaf_is_sound catalog reach) (leaves_in e)) (well_classed leaf_class e) one.0 in
    both_true (value_is_sound catalog wider e) _
    (both_true (list_all (leaf_is_sound catalog wider) (leaves_in e)) _
    (list_implies (leaf_is_sound catalog reach) (leaf_is_sound catalog wider) f (leaves_in e) two.0) two.1) one.1

one_more : (before : List FromItem) (item : FromItem) (items : List FromItem) → (before ++ item ∷ []) ++ items ≡ before ++ (item ∷ items)
one_more before item items = append_assoc before (item ∷ []) items

-- the members of each ON of a FROM are sound within the whole FROM
pub members_sound : (catalog : Catalog) (outer skipped before items : List FromItem) → Differ outer (skipped ++ (before ++ items)) → ons_are_sound catalog outer before items ≡ true
    → list_all (condition_is_sound catalog ((skipped ++ (before ++ items)) ++ outer)) (all_members items) ≡ true
members_sound catalog outer skipped before [] h k = refl
members_sound catalog outer skipped before (item ∷ items) h k = by item.on k (λ skipped before. members_sound catalog outer skipped before items)
  where
    by : (on : Option (List (Expr ColumnLeaf)))
        → (on_is_sound catalog (chain_to before item on ++ outer) on && ons_are_sound catalog outer (chain_to before item on) items) ≡ true
        → ((skipped before : List FromItem) → Differ outer (skipped ++ (before ++ items)) → ons_are_sound catalog outer before items ≡ true
        → list_all (condition_is_sound catalog ((skipped ++ (before ++ items)) ++ outer)) (all_members items) ≡ true)
        → list_all (condition_is_sound catalog ((skipped ++ (before ++ item ∷ items)) ++ outer)) (members_of on ++ all_members items) ≡ true
    by None k later =
        let moved : (skipped ++ before) ++ ((item ∷ []) ++ items) ≡ skipped ++ (before ++ item ∷ items) = append_assoc skipped before (item ∷ items) in
        ap (λ f. list_all (condition_is_sound catalog (f ++ outer)) (all_members items)) (sym moved)
        ∙ later (skipped ++ before) (item ∷ []) (subst (Differ outer) (sym moved) h) k
    by (Some members) k later =
        let two = and_parts (list_all (condition_is_sound catalog ((before ++ item ∷ []) ++ outer)) members) (ons_are_sound catalog outer (before ++ item ∷ []) items) k in
        let moved : skipped ++ ((before ++ item ∷ []) ++ items) ≡ skipped ++ (before ++ item ∷ items) = ap (λ l. skipped ++ l) (one_more before item items) in
        let here = subst (Differ outer) (sym moved) h in
        list_all-append (condition_is_sound catalog ((skipped ++ (before ++ item ∷ items)) ++ outer)) members (all_members items)
        ∙ both_true _ _
        (ap (λ f. list_all (condition_is_sound catalog (f ++ outer)) members) (sym moved)
        ∙ list_implies (condition_is_sound catalog ((before ++ item ∷ []) ++ outer)) (condition_is_sound catalog ((skipped ++ ((before ++ item ∷ []) ++ items)) ++ outer))
        (λ e. wider_condition catalog ((before ++ item ∷ []) ++ outer) ((skipped ++ ((before ++ item ∷ []) ++ items)) ++ outer)
        (λ leaf. leaf_in_from outer catalog leaf skipped (before ++ item ∷ []) items here) e) members two.0)
        (ap (λ f. list_all (condition_is_sound catalog (f ++ outer)) (all_members items)) (sym moved) ∙ later skipped (before ++ item ∷ []) here two.1)
