-- Conditions that are sound in the reach of a whole FROM are sound where they are placed.
use Rattle.std.proofs.Common.{◌≡◌, ℕ, suc, ◌<◌, ◌≤◌, Bool, true, false, ◌&&◌, cond, List, [], ◌∷◌, ◌++◌, map, length, refl, sym, ap, ◌∙◌, inl, inr, Option, None, Some, ◌⊎◌}
use Rattle.std.proofs.Common.{bytes_eq, nat_eq, nat_lt, arith, append_assoc}
use Rattle.std.specs.Prelude.{find}
use Rattle.std.proofs.lemmas.List.{length-append}
use Rattle.std.proofs.Math.ListN.{length-map}
use Rattle.std.specs.List.{list_all}
use Rattle.std.proofs.lemmas.Bool.{eqb-true}
use Rattle.pgq_base.specs.declared.value.Class.TheVariants as class
use Rattle.pgq_base.specs.Tables.{place_of}
use Rattle.multisets.specs.Bags.{IsIn}
use Rattle.pgq_base.specs.declared.value.Value.TheVariants as value
use Rattle.expr_tree.specs.declared.tree.Expr.TheVariants.{Lit}
use Rattle.expr_tree.specs.Classes.{same_class, class_in, well_classed}
use Rattle.expr_tree.specs.Leaves.{leaves_in}
use Rattle.graph_ast.specs.declared.catalog.Catalog.{Catalog}
use Rattle.graph_meaning.specs.Choices.{greatest}
use Rattle.sql_algebra.specs.declared.tree.ColumnLeaf.{ColumnLeaf}
use Rattle.sql_algebra.specs.declared.tree.FromItem.{FromItem}
use Rattle.sql_algebra.specs.declared.tree.Conjunct.TheVariants.{Plain}
use Rattle.sql_algebra.specs.Soundness.{Reach, leaf_is_sound, leaf_class, item_has, condition_is_sound, ons_are_sound}
use Rattle.sql_algebra.proofs.Folds.{conjunct_is_sound, plain_sound}
use Rattle.path_lowering.specs.Emitted.{SqlCondition}
use Rattle.path_lowering.specs.declared.placing.Source.{Source}
use Rattle.path_lowering.specs.Placed.{item_of, latest_of, standing_by, or_true, joined_items, from_of, where_of}
use Rattle.path_lowering.proofs.PlacingLemmas.{and_join, each_of, of_each, in_kept}
use Rattle.path_lowering.proofs.Facts.{in_map}
use Rattle.path_lowering.proofs.BlockLemmas.{all-each}
use Rattle.path_lowering.proofs.SoundForms.{truth_sound}

abbrev found : ColumnLeaf → Reach → Option FromItem
found leaf reach = find (λ item. bytes_eq item.alias leaf.alias) reach

abbrev alias_in : List FromItem → List (List ℕ)
alias_in items = map (λ item. item.alias) items

module _ (catalog : Catalog) (outer : Reach) (leaf : ColumnLeaf) where
  abbrev seen : Reach → Bool
  seen reach = item_has catalog leaf (found leaf reach)

  -- a leaf of none of some items is looked for behind them
  passed : (xs : List FromItem) → length xs ≤ place_of leaf.alias (alias_in xs) → seen (xs ++ outer) ≡ seen outer
  passed [] h = refl
  passed (x ∷ xs) h = go (bytes_eq x.alias leaf.alias) h (passed xs)
    where
      go : (b : Bool) → suc (length xs) ≤ cond b 0 (suc (place_of leaf.alias (alias_in xs))) → (length xs ≤ place_of leaf.alias (alias_in xs) → seen (xs ++ outer) ≡ seen outer)
          → item_has catalog leaf (cond b (Some x) (found leaf (xs ++ outer))) ≡ seen outer
      go true k more = absurd (omega arith)
      go false k more = more (omega arith)

  -- a leaf of one of the first items, or of none at all, is seen alike from these and from all
  near : (xs rest : List FromItem) → (place_of leaf.alias (alias_in (xs ++ rest)) < length xs) ⊎ (length (xs ++ rest) ≤ place_of leaf.alias (alias_in (xs ++ rest)))
      → seen (xs ++ outer) ≡ seen ((xs ++ rest) ++ outer)
  near [] rest (inl h) = absurd (omega arith)
  near [] rest (inr h) = sym (passed rest h)
  near (x ∷ xs) rest h = go (bytes_eq x.alias leaf.alias) h (near xs rest)
    where
      go : (b : Bool)
          → (cond b 0 (suc (place_of leaf.alias (alias_in (xs ++ rest)))) < suc (length xs)) ⊎
          (suc (length (xs ++ rest)) ≤ cond b 0 (suc (place_of leaf.alias (alias_in (xs ++ rest)))))
          → ((place_of leaf.alias (alias_in (xs ++ rest)) < length xs) ⊎ (length (xs ++ rest) ≤ place_of leaf.alias (alias_in (xs ++ rest))) → seen (xs ++ outer)
          ≡ seen ((xs ++ rest) ++ outer))
          → item_has catalog leaf (cond b (Some x) (found leaf (xs ++ outer))) ≡ item_has catalog leaf (cond b (Some x) (found leaf ((xs ++ rest) ++ outer)))
      go true k more = refl
      go false (inl k) more = more (inl (omega arith))
      go false (inr k) more = more (inr (omega arith))

  -- by the number of its item
  by_number : (xs rest : List FromItem) (number : ℕ) → length xs ≡ suc number → item_of (alias_in (xs ++ rest)) leaf ≤ number → seen (xs ++ outer) ≡ seen ((xs ++ rest) ++ outer)
  by_number xs rest number size low =
      near xs rest (go (nat_lt (place_of leaf.alias (alias_in (xs ++ rest))) (length (alias_in (xs ++ rest)))) refl low)
    where
      go : (b : Bool) → nat_lt (place_of leaf.alias (alias_in (xs ++ rest))) (length (alias_in (xs ++ rest))) ≡ b → cond b (place_of leaf.alias (alias_in (xs ++ rest))) 0 ≤ number
          → (place_of leaf.alias (alias_in (xs ++ rest)) < length xs) ⊎ (length (xs ++ rest) ≤ place_of leaf.alias (alias_in (xs ++ rest)))
      go true e k = inl (omega arith)
      go false e k = let n = length-map (xs ++ rest) (λ item. item.alias) in inr (grind arith)

greatest_above : (ns : List ℕ) (n : ℕ) → IsIn n ns → n ≤ greatest ns
greatest_above [] n h = absurd h
greatest_above (m ∷ ns) n (inl e) = omega (arith, e)
greatest_above (m ∷ ns) n (inr h) = let k = greatest_above ns n h in omega (arith, k)

or_true_from : (es : List SqlCondition) (c : SqlCondition) → IsIn c (or_true es) → (c ≡ Lit (value.Truth true)) ⊎ IsIn c es
or_true_from [] c (inl e) = inl (sym e)
or_true_from [] c (inr h) = absurd h
or_true_from (e ∷ es) c h = inr h

joined_aliases : (aliases : List (List ℕ)) (conditions : List SqlCondition) (number : ℕ) (sources : List Source)
    → alias_in (joined_items aliases conditions number sources) ≡ map (λ source. source.alias) sources
joined_aliases aliases conditions number [] = refl
joined_aliases aliases conditions number (s ∷ ss) = ap (λ l. s.alias ∷ l) (joined_aliases aliases conditions (suc number) ss)

-- the aliases of a chain are those of its sources
pub from_aliases : (sources : List Source) (conditions : List SqlCondition) → map (λ item. item.alias) (from_of sources conditions) ≡ map (λ source. source.alias) sources
from_aliases [] conditions = refl
from_aliases (s ∷ ss) conditions = ap (λ l. s.alias ∷ l) (joined_aliases (map (λ source. source.alias) (s ∷ ss)) conditions 1 ss)

-- a condition whose leaves are seen alike is sound alike
sound_alike : (catalog : Catalog) (here there : Reach) (c : SqlCondition) → ((leaf : ColumnLeaf) → IsIn leaf (leaves_in c) → leaf_is_sound catalog here leaf
    ≡ leaf_is_sound catalog there leaf)
    → condition_is_sound catalog here c ≡ condition_is_sound catalog there c
sound_alike catalog here there c same =
    ap (λ b. (b && well_classed leaf_class c) && same_class class.Truth (class_in leaf_class c))
    (all-each (leaf_is_sound catalog here) (leaf_is_sound catalog there) (leaves_in c) same)

module _ (catalog : Catalog) (outer : Reach) (sources : List Source) (conditions : List SqlCondition)
    (all : list_all (condition_is_sound catalog (from_of sources conditions ++ outer)) conditions ≡ true) where
  abbrev items : List FromItem
  items = from_of sources conditions

  abbrev aliases : List (List ℕ)
  aliases = map (λ source. source.alias) sources

  -- a condition that stands by the last of some items is sound in their reach
  placed_sound : (chain rest : List FromItem) (number : ℕ) → chain ++ rest ≡ items → length chain ≡ suc number → (c : SqlCondition) → IsIn c conditions → latest_of aliases c
      ≡ number
      → condition_is_sound catalog (chain ++ outer) c ≡ true
  placed_sound chain rest number whole size c h latest =
      sound_alike catalog (chain ++ outer) (items ++ outer) c
      (λ leaf k. by_number catalog outer leaf chain rest number size
      (let low = greatest_above (map (item_of aliases) (leaves_in c)) (item_of aliases leaf) (in_map (item_of aliases) leaf (leaves_in c) k) in
      let same : item_of (alias_in (chain ++ rest)) leaf ≡ item_of aliases leaf = ap (λ l. item_of (alias_in l) leaf) whole
      ∙ ap (λ l. item_of l leaf) (from_aliases sources conditions) in
      omega (arith, low, same, latest))
      ∙ ap (λ l. item_has catalog leaf (found leaf (l ++ outer))) whole)
      ∙ each_of (condition_is_sound catalog (items ++ outer)) conditions all c h

  members_sound : (chain rest : List FromItem) (number : ℕ) → chain ++ rest ≡ items → length chain ≡ suc number
      → list_all (condition_is_sound catalog (chain ++ outer)) (or_true (standing_by aliases number conditions)) ≡ true
  members_sound chain rest number whole size =
      of_each (condition_is_sound catalog (chain ++ outer)) (or_true (standing_by aliases number conditions))
      (λ c h. elim (or_true_from (standing_by aliases number conditions) c h) [
        | inl e ↦ ap (condition_is_sound catalog (chain ++ outer)) e ∙ truth_sound catalog (chain ++ outer) true
        | inr k ↦ let kept = in_kept (λ condition. nat_eq (latest_of aliases condition) number) conditions c k in
            placed_sound chain rest number whole size c kept.0 (eqb-true _ _ kept.1)
      ])

  chain_sound : (before : List FromItem) (number : ℕ) (some : List Source) → before ++ joined_items aliases conditions number some ≡ items → length before ≡ number
      → ons_are_sound catalog outer before (joined_items aliases conditions number some) ≡ true
  chain_sound before number [] whole size = refl
  chain_sound before number (s ∷ ss) whole size =
      let item : FromItem = record { table = s.table; alias = s.alias; on = Some (or_true (standing_by aliases number conditions)) } in
      let rest : List FromItem = joined_items aliases conditions (suc number) ss in
      let long : length (before ++ item ∷ []) ≡ suc number = length-append before (item ∷ []) ∙ omega (arith, size) in
      let is : (before ++ item ∷ []) ++ rest ≡ items = append_assoc before (item ∷ []) rest ∙ whole in
      and_join _ _ (members_sound (before ++ item ∷ []) rest number is long) (chain_sound (before ++ item ∷ []) (suc number) ss is long)

-- each ON is sound in the reach of the items up to its own
pub ons_sound : (catalog : Catalog) (outer : Reach) (sources : List Source) (conditions : List SqlCondition)
    → list_all (condition_is_sound catalog (from_of sources conditions ++ outer)) conditions ≡ true → ons_are_sound catalog outer [] (from_of sources conditions) ≡ true
ons_sound catalog outer [] conditions all = refl
ons_sound catalog outer (s ∷ ss) conditions all =
    chain_sound catalog outer (s ∷ ss) conditions all (record { table = s.table; alias = s.alias; on = None } ∷ []) 1 ss refl refl

-- and so is each conjunct of WHERE
pub where_sound : (catalog : Catalog) (reach : Reach) (sources : List Source) (conditions : List SqlCondition) → list_all (condition_is_sound catalog reach) conditions ≡ true
    → list_all (λ conjunct. conjunct reach) (map (conjunct_is_sound catalog) (where_of sources conditions)) ≡ true
where_sound catalog reach sources conditions all =
    each (standing_by (map (λ source. source.alias) sources) 0 conditions)
    (λ c h. each_of (condition_is_sound catalog reach) conditions all c (in_kept (λ condition. nat_eq (latest_of (map (λ source. source.alias) sources) condition) 0) conditions
    c h).0)
  where
    each : (cs : List SqlCondition) → ((c : SqlCondition) → IsIn c cs → condition_is_sound catalog reach c ≡ true)
        → list_all (λ conjunct. conjunct reach) (map (conjunct_is_sound catalog) (map Plain cs)) ≡ true
    each [] h = refl
    each (c ∷ cs) h = and_join _ _ (ap (λ f. f reach) (plain_sound catalog c) ∙ h c (inl refl)) (each cs (λ d k. h d (inr k)))
