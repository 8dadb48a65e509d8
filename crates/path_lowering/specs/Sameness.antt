-- When two conditions are the same tree, as a test.
use Rattle.std.specs.Prelude.{ℕ, ◌&&◌, Bool, true, false, nat_eq, List, [], ◌∷◌, bytes_eq}
use Rattle.pgq_base.specs.declared.value.Value.{Value}
use Rattle.pgq_base.specs.declared.value.Value.TheVariants as value
use Rattle.pgq_base.specs.declared.value.Class.{Class}
use Rattle.pgq_base.specs.declared.value.Class.TheVariants as class
use Rattle.pgq_base.specs.Instances.{same_value}
use Rattle.expr_tree.specs.declared.tree.Comparison.{Comparison}
use Rattle.expr_tree.specs.declared.tree.Comparison.TheVariants.{Equal, NotEqual, Less, LessOrEqual, Greater, GreaterOrEqual}
use Rattle.expr_tree.specs.declared.tree.Test.{Test}
use Rattle.expr_tree.specs.declared.tree.Test.TheVariants as test
use Rattle.expr_tree.specs.declared.tree.Expr.{Expr-F, out-Expr, fold-Expr}
use Rattle.sql_algebra.specs.declared.tree.ColumnLeaf.{ColumnLeaf}
use Rattle.path_lowering.specs.Emitted.{SqlCondition}

abbrev pub number_of_class : Class → ℕ
number_of_class class.Number = 0
number_of_class class.Text = 1
number_of_class class.Truth = 2
number_of_class class.Date = 3

abbrev pub number_of_comparison : Comparison → ℕ
number_of_comparison Equal = 0
number_of_comparison NotEqual = 1
number_of_comparison Less = 2
number_of_comparison LessOrEqual = 3
number_of_comparison Greater = 4
number_of_comparison GreaterOrEqual = 5

abbrev pub number_of_test : Test → ℕ
number_of_test test.Null = 0
number_of_test test.True = 1
number_of_test test.False = 2
number_of_test test.Unknown = 3

abbrev pub number_of_truth : Bool → ℕ
number_of_truth false = 0
number_of_truth true = 1

-- A node in one form for all: which form it has, the numbers, the value and the column in it, and its children.
pub record Node (A : Type 0) : Type 0 where
  pub form : ℕ
  pub first : ℕ
  pub second : ℕ
  pub value : Value
  pub leaf : ColumnLeaf
  pub children : List A

abbrev pub no_leaf : ColumnLeaf
no_leaf = record { alias = []; column = []; class = class.Number }

abbrev pub plain_node : {A : Type 0} → ℕ → ℕ → ℕ → List A → Node A
plain_node form first second children = record { form = form; first = first; second = second; value = value.Null; leaf = no_leaf; children = children }

abbrev pub node_of : {A : Type 0} → Expr-F ColumnLeaf A → Node A
node_of (Expr-F.Lit v) = record { form = 0; first = 0; second = 0; value = v; leaf = no_leaf; children = [] }
node_of (Expr-F.Null c) = plain_node 1 (number_of_class c) 0 []
node_of (Expr-F.Leaf l) = record { form = 2; first = 0; second = 0; value = value.Null; leaf = l; children = [] }
node_of (Expr-F.Compare op a b) = plain_node 3 (number_of_comparison op) 0 (a ∷ b ∷ [])
node_of (Expr-F.All es) = plain_node 4 0 0 es
node_of (Expr-F.Any es) = plain_node 5 0 0 es
node_of (Expr-F.Not a) = plain_node 6 0 0 (a ∷ [])
node_of (Expr-F.Is a t negated) = plain_node 7 (number_of_test t) (number_of_truth negated) (a ∷ [])
node_of (Expr-F.InList a es negated) = plain_node 8 (number_of_truth negated) 0 (a ∷ es)
node_of (Expr-F.Between a b c negated) = plain_node 9 (number_of_truth negated) 0 (a ∷ b ∷ c ∷ [])
node_of (Expr-F.Coalesce es) = plain_node 10 0 0 es

abbrev pub same_leaf : ColumnLeaf → ColumnLeaf → Bool
same_leaf l m = bytes_eq l.alias m.alias && (bytes_eq l.column m.column && nat_eq (number_of_class l.class) (number_of_class m.class))

-- each child has its own test of what stands at its place
abbrev pub all_met : {A : Type 0} → List (A → Bool) → List A → Bool
all_met [] [] = true
all_met [] (x ∷ xs) = false
all_met (p ∷ ps) [] = false
all_met (p ∷ ps) (x ∷ xs) = p x && all_met ps xs

abbrev pub same_node : {A : Type 0} → Node (A → Bool) → Node A → Bool
same_node x y =
    nat_eq x.form y.form && (nat_eq x.first y.first && (nat_eq x.second y.second && (same_value x.value y.value && (same_leaf x.leaf y.leaf && all_met x.children y.children))))

-- whether two conditions are the same, node by node
abbrev pub same_condition : SqlCondition → SqlCondition → Bool
same_condition = fold-Expr ColumnLeaf (SqlCondition → Bool) (λ x other. same_node (node_of x) (node_of (out-Expr ColumnLeaf other)))
