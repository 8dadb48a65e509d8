-- When expressions over columns are sound in the reach of some items.
use Rattle.std.proofs.Common.{◌≡◌, Bool, true, List, [], ◌∷◌, ◌++◌, map, flat_map, refl, sym, ap, ap₂, ◌∙◌}
use Rattle.std.specs.List.{AllByRecursion, list_all}
use Rattle.std.proofs.lemmas.Bool.{and_parts}
use Rattle.std.proofs.lemmas.List.Folds.{list_all-append}
use Rattle.pgq_base.specs.declared.value.Class.{Class}
use Rattle.pgq_base.specs.declared.value.Class.TheVariants as class
use Rattle.pgq_base.specs.declared.value.Value.TheVariants as value
use Rattle.expr_tree.specs.declared.tree.Comparison.{Comparison}
use Rattle.expr_tree.specs.declared.tree.Expr.{Expr, Expr-F}
use Rattle.expr_tree.specs.declared.tree.Expr.TheVariants.{Null, Lit, Leaf, Compare, All, Any}
use Rattle.expr_tree.specs.Classes.{same_class, class_step, class_in, judged_step, judged, well_classed}
use Rattle.expr_tree.specs.Leaves.{joined, leaves_step, leaves_in, EachLeaf}
use Rattle.expr_tree.specs.Mapping.{mapped, KeepsClass}
use Rattle.expr_tree.proofs.ClassLemmas.{same_self}
use Rattle.expr_tree.proofs.Folds.{each_implies}
use Rattle.expr_tree.proofs.JudgementLemmas.{judged_class}
use Rattle.expr_tree.proofs.LawLemmas.{mapped_class, mapped_rules, mapped_leaves}
use Rattle.graph_ast.specs.declared.catalog.Catalog.{Catalog}
use Rattle.sql_algebra.specs.declared.tree.ColumnLeaf.{ColumnLeaf}
use Rattle.sql_algebra.specs.Soundness.{Reach, leaf_is_sound, leaf_class, value_is_sound, condition_is_sound}
use Rattle.sql_algebra.proofs.Folds.{on-Lit, on-Null, on-Leaf, on-Compare, on-All, on-Any}
use Rattle.path_lowering.specs.Emitted.{SqlCondition}
use Rattle.path_lowering.proofs.PlacingLemmas.{and_join}

module _ (catalog : Catalog) (reach : Reach) where
  abbrev sound : ColumnLeaf → Bool
  sound = leaf_is_sound catalog reach

  value_from : (e : SqlCondition) (ls : List ColumnLeaf) → leaves_in e ≡ ls → list_all sound ls ≡ true → well_classed leaf_class e ≡ true → value_is_sound catalog reach e ≡ true
  value_from e ls is all kept = and_join _ _ (ap (list_all sound) is ∙ all) kept

  condition_from : (e : SqlCondition) (ls : List ColumnLeaf) → leaves_in e ≡ ls → list_all sound ls ≡ true → well_classed leaf_class e ≡ true → class_in leaf_class e ≡ class.Truth
      → condition_is_sound catalog reach e ≡ true
  condition_from e ls is all kept truth = and_join _ _ (value_from e ls is all kept) (ap (same_class class.Truth) truth)

  pub leaf_value_sound : (leaf : ColumnLeaf) → sound leaf ≡ true → value_is_sound catalog reach (Leaf leaf) ≡ true
  leaf_value_sound leaf h =
      value_from (Leaf leaf) (leaf ∷ []) (on-Leaf leaves_step leaf) (and_join _ _ h refl) (ap (λ j. j.kept) (on-Leaf (judged_step leaf_class) leaf))

  pub leaf_class_is : (leaf : ColumnLeaf) → class_in leaf_class (Leaf leaf) ≡ leaf.class
  leaf_class_is leaf = on-Leaf (class_step leaf_class) leaf

  pub null_value_sound : (c : Class) → value_is_sound catalog reach (Null c) ≡ true
  null_value_sound c = value_from (Null c) [] (on-Null leaves_step c) refl (ap (λ j. j.kept) (on-Null (judged_step leaf_class) c))

  pub null_class_is : (c : Class) → class_in leaf_class (Null c) ≡ c
  null_class_is c = on-Null (class_step leaf_class) c

  pub truth_sound : (b : Bool) → condition_is_sound catalog reach (Lit (value.Truth b)) ≡ true
  truth_sound b =
      condition_from (Lit (value.Truth b)) [] (on-Lit leaves_step (value.Truth b)) refl (ap (λ j. j.kept) (on-Lit (judged_step leaf_class) (value.Truth b)))
      (on-Lit (class_step leaf_class) (value.Truth b))

  -- a comparison of two columns of one class
  pub pair_sound : (op : Comparison) (a b : ColumnLeaf) → sound a ≡ true → sound b ≡ true → a.class ≡ b.class → condition_is_sound catalog reach (Compare op (Leaf a) (Leaf b))
      ≡ true
  pair_sound op a b p q same =
      condition_from (Compare op (Leaf a) (Leaf b)) (a ∷ b ∷ [])
      (on-Compare leaves_step op (Leaf a) (Leaf b) ∙ ap₂ (λ x y. x ++ y) (on-Leaf leaves_step a) (on-Leaf leaves_step b))
      (and_join _ _ p (and_join _ _ q refl))
      (ap (λ j. j.kept) (on-Compare (judged_step leaf_class) op (Leaf a) (Leaf b)
      ∙ ap₂ (λ x y. judged_step leaf_class (Expr-F.Compare op x y)) (on-Leaf (judged_step leaf_class) a) (on-Leaf (judged_step leaf_class) b))
      ∙ ap (λ c. same_class a.class c) (sym same) ∙ same_self a.class)
      (on-Compare (class_step leaf_class) op (Leaf a) (Leaf b))

  parts_of : (e : SqlCondition) → condition_is_sound catalog reach e ≡ true → (list_all sound (leaves_in e) ≡ true) × (well_classed leaf_class e ≡ true)
      × (same_class class.Truth (class_in leaf_class e) ≡ true)
  parts_of e h = let p = and_parts (value_is_sound catalog reach e) (same_class class.Truth (class_in leaf_class e)) h in let q = and_parts _ _ p.0 in (q.0, q.1, p.1)

  joined_sound : (es : List SqlCondition) → list_all (condition_is_sound catalog reach) es ≡ true → list_all sound (joined (map leaves_in es)) ≡ true
  joined_sound [] h = refl
  joined_sound (e ∷ es) h =
      let p = and_parts (condition_is_sound catalog reach e) (list_all (condition_is_sound catalog reach) es) h in
      list_all-append sound (leaves_in e) (joined (map leaves_in es)) ∙ and_join _ _ (parts_of e p.0).0 (joined_sound es p.1)

  kept_all : (es : List SqlCondition) → list_all (condition_is_sound catalog reach) es ≡ true → list_all (λ j. j.kept) (map (judged leaf_class) es) ≡ true
  kept_all [] h = refl
  kept_all (e ∷ es) h =
      let p = and_parts (condition_is_sound catalog reach e) (list_all (condition_is_sound catalog reach) es) h in and_join _ _ (parts_of e p.0).1 (kept_all es p.1)

  class_all : (es : List SqlCondition) → list_all (condition_is_sound catalog reach) es ≡ true
      → list_all (same_class class.Truth) (map (λ j. j.class) (map (judged leaf_class) es)) ≡ true
  class_all [] h = refl
  class_all (e ∷ es) h =
      let p = and_parts (condition_is_sound catalog reach e) (list_all (condition_is_sound catalog reach) es) h in
      and_join _ _ (ap (same_class class.Truth) (judged_class leaf_class e) ∙ (parts_of e p.0).2) (class_all es p.1)

  -- an AND and an OR of conditions
  pub all_sound : (es : List SqlCondition) → list_all (condition_is_sound catalog reach) es ≡ true → condition_is_sound catalog reach (All es) ≡ true
  all_sound es h =
      condition_from (All es) (joined (map leaves_in es)) (on-All leaves_step es) (joined_sound es h)
      (ap (λ j. j.kept) (on-All (judged_step leaf_class) es) ∙ and_join _ _ (kept_all es h) (class_all es h)) (on-All (class_step leaf_class) es)

  pub any_sound : (es : List SqlCondition) → list_all (condition_is_sound catalog reach) es ≡ true → condition_is_sound catalog reach (Any es) ≡ true
  any_sound es h =
      condition_from (Any es) (joined (map leaves_in es)) (on-Any leaves_step es) (joined_sound es h)
      (ap (λ j. j.kept) (on-Any (judged_step leaf_class) es) ∙ and_join _ _ (kept_all es h) (class_all es h)) (on-Any (class_step leaf_class) es)

  -- what stands for a leaf is sound and has the leaf's class
  module _ {L : Type 0} (own : L → Class) (to : L → SqlCondition) where
    pub record StandsFor (l : L) : Type 0 where
      pub sound : value_is_sound catalog reach (to l) ≡ true
      pub class : class_in leaf_class (to l) ≡ own l

    leaves_sound : (ls : List L) → AllByRecursion StandsFor ls → list_all sound (flat_map (λ l. leaves_in (to l)) ls) ≡ true
    leaves_sound [] h = refl
    leaves_sound (l ∷ ls) h =
        list_all-append sound (leaves_in (to l)) (flat_map (λ l. leaves_in (to l)) ls) ∙ and_join _ _ (and_parts _ _ h.0.sound).0 (leaves_sound ls h.1)

    pub mapped_value_sound : (e : Expr L) → EachLeaf StandsFor e → well_classed own e ≡ true → value_is_sound catalog reach (mapped to e) ≡ true
    mapped_value_sound e each well =
        value_from (mapped to e) (flat_map (λ l. leaves_in (to l)) (leaves_in e)) (mapped_leaves to e) (leaves_sound (leaves_in e) each)
        (mapped_rules own leaf_class to e (each_implies StandsFor (KeepsClass own leaf_class to) (λ l h. record { well_classed = (and_parts _ _ h.sound).1; class = h.class })
        (leaves_in e) each) ∙ well)

    pub mapped_class_is : (e : Expr L) → EachLeaf StandsFor e → class_in leaf_class (mapped to e) ≡ class_in own e
    mapped_class_is e each = mapped_class own leaf_class to e (each_implies StandsFor (λ l. class_in leaf_class (to l) ≡ own l) (λ l h. h.class) (leaves_in e) each)

    pub mapped_sound : (e : Expr L) → EachLeaf StandsFor e → well_classed own e ≡ true → class_in own e ≡ class.Truth → condition_is_sound catalog reach (mapped to e) ≡ true
    mapped_sound e each well truth = and_join _ _ (mapped_value_sound e each well) (ap (same_class class.Truth) (mapped_class_is e each ∙ truth))
