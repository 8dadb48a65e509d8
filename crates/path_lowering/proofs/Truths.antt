-- When AND, OR and a comparison are True.
use Rattle.std.proofs.Common.{◌≡◌, Bool, true, false, ◌&&◌, ◌||◌, List, [], ◌∷◌, map, flat_map, refl, sym, ap, ap₂, ◌∙◌}
use Rattle.std.specs.List.{list_all, list_any}
use Rattle.std.proofs.lemmas.List.Folds.{list_all-append, list_all-map}
use Rattle.pgq_base.specs.declared.truth.Truth3.{Truth3}
use Rattle.pgq_base.specs.declared.truth.Truth3.TheVariants.{False, Unknown, True}
use Rattle.pgq_base.specs.declared.value.Value.{Value}
use Rattle.pgq_base.specs.Kleene.{and3, or3}
use Rattle.expr_tree.specs.declared.tree.Comparison.{Comparison}
use Rattle.expr_tree.specs.declared.tree.Expr.TheVariants.{Leaf, Compare, All, Any}
use Rattle.expr_tree.specs.Meaning.{compare_by, and_all, or_all, truth_in}
use Rattle.expr_tree.proofs.FormLemmas.{values, truths}
use Rattle.graph_meaning.specs.Conditions as graph_side
use Rattle.sql_algebra.specs.declared.tree.ColumnLeaf.{ColumnLeaf}
use Rattle.sql_algebra.specs.Tuples.{is_true}
use Rattle.path_lowering.specs.Emitted.{SqlCondition, any_of, all_of}

-- both sides ask the same of a truth
pub true_twice : (t : Truth3) → is_true t ≡ graph_side.is_true t
true_twice False = refl
true_twice Unknown = refl
true_twice True = refl

and_true : (a b : Truth3) → is_true (and3 a b) ≡ (is_true a && is_true b)
and_true False b = refl
and_true True b = refl
and_true Unknown False = refl
and_true Unknown Unknown = refl
and_true Unknown True = refl

or_true : (a b : Truth3) → is_true (or3 a b) ≡ (is_true a || is_true b)
or_true True b = refl
or_true False b = refl
or_true Unknown False = refl
or_true Unknown Unknown = refl
or_true Unknown True = refl

all_true : (ts : List Truth3) → is_true (and_all ts) ≡ list_all is_true ts
all_true [] = refl
all_true (t ∷ ts) = and_true t (and_all ts) ∙ ap (λ b. is_true t && b) (all_true ts)

any_true : (ts : List Truth3) → is_true (or_all ts) ≡ list_any is_true ts
any_true [] = refl
any_true (t ∷ ts) = or_true t (or_all ts) ∙ ap (λ b. is_true t || b) (any_true ts)

pub list_any-map : {X Y : Type 0} (p : X → Bool) (h : Y → X) (ys : List Y) → list_any p (map h ys) ≡ list_any (λ y. p (h y)) ys
list_any-map p h [] = refl
list_any-map p h (y ∷ ys) = ap (λ b. p (h y) || b) (list_any-map p h ys)

pub or_false : (b : Bool) → (b || false) ≡ b
or_false true = refl
or_false false = refl

pub and_kept : (b : Bool) → (b && true) ≡ b
and_kept true = refl
and_kept false = refl

pub and_together : (a b c : Bool) → ((a && b) && c) ≡ (a && (b && c))
and_together true b c = refl
and_together false b c = refl

pub list_all-flat_map : {X Y : Type 0} (p : Y → Bool) (f : X → List Y) (xs : List X) → list_all p (flat_map f xs) ≡ list_all (λ x. list_all p (f x)) xs
list_all-flat_map p f [] = refl
list_all-flat_map p f (x ∷ xs) = list_all-append p (f x) (flat_map f xs) ∙ ap (λ b. list_all p (f x) && b) (list_all-flat_map p f xs)

module _ (env : ColumnLeaf → Value) where
  abbrev pub true_in : SqlCondition → Bool
  true_in e = is_true (truth_in env e)

  abbrev pub all_true_in : List SqlCondition → Bool
  all_true_in es = list_all true_in es

  pub true_All : (es : List SqlCondition) → true_in (All es) ≡ all_true_in es
  true_All es = ap is_true ((truths env).all es) ∙ all_true (map (truth_in env) es) ∙ list_all-map is_true (truth_in env) es

  pub true_Any : (es : List SqlCondition) → true_in (Any es) ≡ list_any true_in es
  true_Any es = ap is_true ((truths env).any es) ∙ any_true (map (truth_in env) es) ∙ list_any-map is_true (truth_in env) es

  pub true_Compare : (op : Comparison) (a b : ColumnLeaf) → true_in (Compare op (Leaf a) (Leaf b)) ≡ is_true (compare_by op (env a) (env b))
  true_Compare op a b =
      ap is_true ((truths env).compare op (Leaf a) (Leaf b) ∙ ap₂ (compare_by op) ((values env).leaf a) ((values env).leaf b))

  pub true_all_of : (es : List SqlCondition) → true_in (all_of es) ≡ all_true_in es
  true_all_of [] = true_All []
  true_all_of (e ∷ []) = sym (and_kept (true_in e))
  true_all_of (e ∷ f ∷ es) = true_All (e ∷ f ∷ es)

  pub true_any_of : (es : List SqlCondition) → true_in (any_of es) ≡ list_any true_in es
  true_any_of [] = true_Any []
  true_any_of (e ∷ []) = sym (or_false (true_in e))
  true_any_of (e ∷ f ∷ es) = true_Any (e ∷ f ∷ es)
