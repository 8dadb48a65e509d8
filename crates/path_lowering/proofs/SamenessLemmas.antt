-- The test of two conditions decides whether they are equal.
use Rattle.std.proofs.Common.{◌≡◌, ℕ, Bool, true, false, ◌&&◌, List, [], ◌∷◌, map, get_or, refl, sym, ap, ap₂, subst, ◌∙◌, ◌↔◌}
use Rattle.std.proofs.lemmas.Bool.{and_parts, eqb-true, eq-eqb}
use Rattle.std.proofs.lemmas.Slice.Eq.{bytes_eq-Decides}
use Rattle.pgq_base.specs.declared.value.Class.{Class}
use Rattle.pgq_base.specs.declared.value.Class.TheVariants as class
use Rattle.pgq_base.proofs.ValueOrder.{same_value_decides}
use Rattle.expr_tree.specs.declared.tree.Comparison.{Comparison}
use Rattle.expr_tree.specs.declared.tree.Comparison.TheVariants.{Equal, NotEqual, Less, LessOrEqual, Greater, GreaterOrEqual}
use Rattle.expr_tree.specs.declared.tree.Test.{Test}
use Rattle.expr_tree.specs.declared.tree.Test.TheVariants as test
use Rattle.expr_tree.specs.declared.tree.Expr.{Expr-F, out-Expr, roll-Expr, out-roll-Expr, roll-out-Expr, map-Expr, fold-roll-Expr, ind-Expr}
use Rattle.sql_algebra.specs.declared.tree.ColumnLeaf.{ColumnLeaf}
use Rattle.path_lowering.specs.Emitted.{SqlCondition}
use Rattle.path_lowering.specs.Sameness.{number_of_class, number_of_comparison, number_of_test, number_of_truth, Node, node_of, same_leaf, all_met, same_node, same_condition}

abbrev class_of_number : ℕ → Class
class_of_number n = get_or (class.Number ∷ class.Text ∷ class.Truth ∷ class.Date ∷ []) n class.Number

class_back : (c : Class) → class_of_number (number_of_class c) ≡ c
class_back class.Number = refl
class_back class.Text = refl
class_back class.Truth = refl
class_back class.Date = refl

abbrev comparison_of_number : ℕ → Comparison
comparison_of_number n = get_or (Equal ∷ NotEqual ∷ Less ∷ LessOrEqual ∷ Greater ∷ GreaterOrEqual ∷ []) n Equal

comparison_back : (op : Comparison) → comparison_of_number (number_of_comparison op) ≡ op
comparison_back Equal = refl
comparison_back NotEqual = refl
comparison_back Less = refl
comparison_back LessOrEqual = refl
comparison_back Greater = refl
comparison_back GreaterOrEqual = refl

abbrev test_of_number : ℕ → Test
test_of_number n = get_or (test.Null ∷ test.True ∷ test.False ∷ test.Unknown ∷ []) n test.Null

test_back : (t : Test) → test_of_number (number_of_test t) ≡ t
test_back test.Null = refl
test_back test.True = refl
test_back test.False = refl
test_back test.Unknown = refl

abbrev truth_of_number : ℕ → Bool
truth_of_number n = get_or (false ∷ true ∷ []) n false

truth_back : (b : Bool) → truth_of_number (number_of_truth b) ≡ b
truth_back true = refl
truth_back false = refl

abbrev Layer : Type 0
Layer = Expr-F ColumnLeaf SqlCondition

-- the layers with one child, two and three, and a child before others
abbrev with_one : Layer → (SqlCondition → Layer) → List SqlCondition → Layer
with_one other made [] = other
with_one other made (a ∷ es) = made a

abbrev with_more : Layer → (SqlCondition → List SqlCondition → Layer) → List SqlCondition → Layer
with_more other made [] = other
with_more other made (a ∷ es) = made a es

abbrev with_two : Layer → (SqlCondition → SqlCondition → Layer) → List SqlCondition → Layer
with_two other made [] = other
with_two other made (a ∷ []) = other
with_two other made (a ∷ b ∷ es) = made a b

abbrev with_three : Layer → (SqlCondition → SqlCondition → SqlCondition → Layer) → List SqlCondition → Layer
with_three other made [] = other
with_three other made (a ∷ []) = other
with_three other made (a ∷ b ∷ []) = other
with_three other made (a ∷ b ∷ c ∷ es) = made a b c

-- the layer of a node
abbrev layer : Node SqlCondition → Layer
layer n =
    let none : Layer = Expr-F.Lit n.value in
    get_or (none ∷ Expr-F.Null (class_of_number n.first) ∷ Expr-F.Leaf n.leaf ∷ with_two none (λ a b. Expr-F.Compare (comparison_of_number n.first) a b) n.children
    ∷ Expr-F.All n.children ∷ Expr-F.Any n.children ∷ with_one none (λ a. Expr-F.Not a) n.children
    ∷ with_one none (λ a. Expr-F.Is a (test_of_number n.first) (truth_of_number n.second)) n.children
    ∷ with_more none (λ a es. Expr-F.InList a es (truth_of_number n.first)) n.children
    ∷ with_three none (λ a b c. Expr-F.Between a b c (truth_of_number n.first)) n.children ∷ Expr-F.Coalesce n.children ∷ []) n.form none

layer_back : (x : Layer) → layer (node_of x) ≡ x
layer_back (Expr-F.Lit v) = refl
layer_back (Expr-F.Null c) = ap Expr-F.Null (class_back c)
layer_back (Expr-F.Leaf l) = refl
layer_back (Expr-F.Compare op a b) = ap (λ o. Expr-F.Compare o a b) (comparison_back op)
layer_back (Expr-F.All es) = refl
layer_back (Expr-F.Any es) = refl
layer_back (Expr-F.Not a) = refl
layer_back (Expr-F.Is a t n) = ap₂ (λ u m. Expr-F.Is a u m) (test_back t) (truth_back n)
layer_back (Expr-F.InList a es n) = ap (λ m. Expr-F.InList a es m) (truth_back n)
layer_back (Expr-F.Between a b c n) = ap (λ m. Expr-F.Between a b c m) (truth_back n)
layer_back (Expr-F.Coalesce es) = refl

abbrev node_with : {A B : Type 0} → (A → B) → Node A → Node B
node_with f n = record { form = n.form; first = n.first; second = n.second; value = n.value; leaf = n.leaf; children = map f n.children }

node_mapped : {A B : Type 0} (f : A → B) (x : Expr-F ColumnLeaf A) → node_of (map-Expr ColumnLeaf A B f x) ≡ node_with f (node_of x)
node_mapped f (Expr-F.Lit v) = refl
node_mapped f (Expr-F.Null c) = refl
node_mapped f (Expr-F.Leaf l) = refl
node_mapped f (Expr-F.Compare op a b) = refl
node_mapped f (Expr-F.All es) = refl
node_mapped f (Expr-F.Any es) = refl
node_mapped f (Expr-F.Not a) = refl
node_mapped f (Expr-F.Is a t n) = refl
node_mapped f (Expr-F.InList a es n) = refl
node_mapped f (Expr-F.Between a b c n) = refl
node_mapped f (Expr-F.Coalesce es) = refl

-- the test tells of a condition and of all that it is compared with
abbrev Tells : SqlCondition → Type 0
Tells a = (same_condition a a ≡ true) × ((b : SqlCondition) → same_condition a b ≡ true → a ≡ b)

abbrev Told : Type 0
Told = (e : SqlCondition) × Tells e

abbrev bare : Told → SqlCondition
bare e = e.0

same_leaf_is : (l m : ColumnLeaf) → same_leaf l m ≡ true → l ≡ m
same_leaf_is l m h =
    let p = and_parts _ _ h in
    let q = and_parts _ _ p.1 in
    let alias : l.alias ≡ m.alias = (bytes_eq-Decides l.alias m.alias).0 p.0 in
    let column : l.column ≡ m.column = (bytes_eq-Decides l.column m.column).0 q.0 in
    let class : l.class ≡ m.class = sym (class_back l.class) ∙ ap class_of_number (eqb-true _ _ q.1) ∙ class_back m.class in
    ap₂ (λ a b. record { alias = a; column = b; class = l.class }) alias column ∙ ap (λ c. record { alias = m.alias; column = m.column; class = c }) class

same_leaf_self : (l : ColumnLeaf) → same_leaf l l ≡ true
same_leaf_self l =
    ap₂ (λ a b. a && b) ((bytes_eq-Decides l.alias l.alias).1 refl)
    (ap₂ (λ a b. a && b) ((bytes_eq-Decides l.column l.column).1 refl) (eq-eqb (number_of_class l.class) (number_of_class l.class) refl))

children_are : (es : List Told) (xs : List SqlCondition) → all_met (map same_condition (map bare es)) xs ≡ true → map bare es ≡ xs
children_are [] [] h = refl
children_are [] (x ∷ xs) h = cc
children_are (e ∷ es) [] h = cc
children_are (e ∷ es) (x ∷ xs) h = let p = and_parts _ _ h in ap₂ (λ y ys. y ∷ ys) (e.1.1 x p.0) (children_are es xs p.1)

children_self : (es : List Told) → all_met (map same_condition (map bare es)) (map bare es) ≡ true
children_self [] = refl
children_self (e ∷ es) = ap₂ (λ a b. a && b) e.1.0 (children_self es)

node_is : (n : Node Told) (m : Node SqlCondition) → same_node (node_with same_condition (node_with bare n)) m ≡ true → node_with bare n ≡ m
node_is n m h =
    let p = and_parts _ _ h in
    let q = and_parts _ _ p.1 in
    let r = and_parts _ _ q.1 in
    let s = and_parts _ _ r.1 in
    let t = and_parts _ _ s.1 in
    let form : n.form ≡ m.form = eqb-true _ _ p.0 in
    let first : n.first ≡ m.first = eqb-true _ _ q.0 in
    let second : n.second ≡ m.second = eqb-true _ _ r.0 in
    let v : n.value ≡ m.value = (same_value_decides n.value m.value).0 s.0 in
    let leaf : n.leaf ≡ m.leaf = same_leaf_is n.leaf m.leaf t.0 in
    let children : map bare n.children ≡ m.children = children_are n.children m.children t.1 in
    ap₂ (λ a b. record { form = a; first = b; second = n.second; value = n.value; leaf = n.leaf; children = map bare n.children }) form first
    ∙ ap₂ (λ a b. record { form = m.form; first = m.first; second = a; value = b; leaf = n.leaf; children = map bare n.children }) second v
    ∙ ap₂ (λ a b. record { form = m.form; first = m.first; second = m.second; value = m.value; leaf = a; children = b }) leaf children

node_self : (n : Node Told) → same_node (node_with same_condition (node_with bare n)) (node_with bare n) ≡ true
node_self n =
    ap₂ (λ a b. a && b) (eq-eqb n.form n.form refl)
    (ap₂ (λ a b. a && b) (eq-eqb n.first n.first refl)
    (ap₂ (λ a b. a && b) (eq-eqb n.second n.second refl)
    (ap₂ (λ a b. a && b) ((same_value_decides n.value n.value).1 refl)
    (ap₂ (λ a b. a && b) (same_leaf_self n.leaf) (children_self n.children)))))

abbrev step : Expr-F ColumnLeaf (SqlCondition → Bool) → SqlCondition → Bool
step x other = same_node (node_of x) (node_of (out-Expr ColumnLeaf other))

at_node : (y : Expr-F ColumnLeaf Told) (b : SqlCondition)
    → same_condition (roll-Expr ColumnLeaf (map-Expr ColumnLeaf Told SqlCondition bare y)) b
    ≡ same_node (node_with same_condition (node_with bare (node_of y))) (node_of (out-Expr ColumnLeaf b))
at_node y b =
    ap (λ f. f b) (fold-roll-Expr ColumnLeaf (SqlCondition → Bool) step (map-Expr ColumnLeaf Told SqlCondition bare y))
    ∙ ap (λ n. same_node n (node_of (out-Expr ColumnLeaf b)))
    (node_mapped same_condition (map-Expr ColumnLeaf Told SqlCondition bare y) ∙ ap (node_with same_condition) (node_mapped bare y))

tells_rolled : (y : Expr-F ColumnLeaf Told) → Tells (roll-Expr ColumnLeaf (map-Expr ColumnLeaf Told SqlCondition bare y))
tells_rolled y =
    let x : Expr-F ColumnLeaf SqlCondition = map-Expr ColumnLeaf Told SqlCondition bare y in (
      at_node y (roll-Expr ColumnLeaf x)
          ∙ ap (λ o. same_node (node_with same_condition (node_with bare (node_of y))) (node_of o)) (out-roll-Expr ColumnLeaf x)
          ∙ ap (same_node (node_with same_condition (node_with bare (node_of y)))) (node_mapped bare y)
          ∙ node_self (node_of y),
      λ b h.
          let same = node_is (node_of y) (node_of (out-Expr ColumnLeaf b)) (sym (at_node y b) ∙ h) in
          ap (roll-Expr ColumnLeaf) (sym (layer_back x) ∙ ap layer (node_mapped bare y ∙ same) ∙ layer_back (out-Expr ColumnLeaf b)) ∙ roll-out-Expr ColumnLeaf b,
    )

tells : (a : SqlCondition) → Tells a
tells = ind-Expr ColumnLeaf Tells (λ x y is. subst (λ z. Tells (roll-Expr ColumnLeaf z)) is (tells_rolled y))

pub same_is : (a b : SqlCondition) → same_condition a b ≡ true → a ≡ b
same_is a b h = (tells a).1 b h

pub same_self : (a : SqlCondition) → same_condition a a ≡ true
same_self a = (tells a).0

-- a test that says whether two conditions are equal is the same test
pub same_test : (r : Bool) (a b : SqlCondition) → ((r ≡ true) ↔ (a ≡ b)) → r ≡ same_condition a b
same_test true a b h = sym (subst (λ c. same_condition a c ≡ true) (h.0 refl) (same_self a))
same_test false a b h = go (same_condition a b) refl
  where
    go : (s : Bool) → same_condition a b ≡ s → false ≡ s
    go false e = refl
    go true e = h.1 (same_is a b e)
