-- What a resolved expression means: the value of the expression under the tuple of the stack.
use Rattle.std.proofs.Common.{◌≡◌, cond, Bool, true, false, List, [], ◌∷◌, get_or, refl, sym, ap, ◌∙◌, Some}
use Rattle.std.specs.Prelude.{bytes_eq}
use Rattle.std.specs.List.{AllByRecursion}
use Rattle.pgq_base.specs.declared.value.Class.{Class}
use Rattle.pgq_base.specs.declared.value.Class.TheVariants as class
use Rattle.pgq_base.specs.declared.value.Value.{Value}
use Rattle.pgq_base.specs.declared.value.Value.TheVariants as value
use Rattle.pgq_base.specs.Values.{IsOf}
use Rattle.pgq_base.specs.Instances.{value_at}
use Rattle.expr_tree.specs.declared.tree.Expr.{Expr}
use Rattle.expr_tree.specs.Leaves.{leaves_in, EachLeaf}
use Rattle.expr_tree.specs.Mapping.{mapped}
use Rattle.expr_tree.specs.Meaning.{value_in}
use Rattle.expr_tree.proofs.Folds.{each_from_all}
use Rattle.expr_tree.proofs.FormLemmas.{values}
use Rattle.expr_tree.proofs.LawLemmas.{mapped_value, same_values}
use Rattle.graph_ast.specs.declared.catalog.Catalog.{Catalog}
use Rattle.sql_algebra.specs.declared.tree.ColumnLeaf.{ColumnLeaf}
use Rattle.sql_algebra.specs.Catalogs.{column_place}
use Rattle.sql_algebra.specs.Tuples.{leaf_value}
use Rattle.row_eval.specs.Slots.{Stack, fitted, slot_value}
use Rattle.row_eval.specs.Scopes.{Placed, tuple_of, slot_in_reach, leaf_at_slot, leaf_expr_of}

fitted_null : (c : Class) → fitted c value.Null ≡ value.Null
fitted_null class.Truth = refl
fitted_null class.Number = refl
fitted_null class.Text = refl
fitted_null class.Date = refl

-- a value of the class is itself
pub fitted_same : (c : Class) (v : Value) → IsOf c v → fitted c v ≡ v
fitted_same c value.Null h = fitted_null c
fitted_same c (value.Truth b) h = ap (λ d. fitted d (value.Truth b)) h
fitted_same c (value.Number n) h = ap (λ d. fitted d (value.Number n)) h
fitted_same c (value.Decimal x) h = ap (λ d. fitted d (value.Decimal x)) h
fitted_same c (value.Date x) h = ap (λ d. fitted d (value.Date x)) h
fitted_same c (value.Text t) h = ap (λ d. fitted d (value.Text t)) h

module _ (catalog : Catalog) (stack : Stack) where
  pub resolved : (reach : List Placed) (leaf : ColumnLeaf)
      → value_in (slot_value stack) (leaf_expr_of catalog reach leaf) ≡ fitted leaf.class (leaf_value catalog (tuple_of reach stack) leaf)
  resolved [] leaf = (values (slot_value stack)).null leaf.class ∙ sym (fitted_null leaf.class)
  resolved (r ∷ reach) leaf = go (bytes_eq r.item.alias leaf.alias) (resolved reach leaf)
    where
      go : (b : Bool) → value_in (slot_value stack) (leaf_expr_of catalog reach leaf) ≡ fitted leaf.class (leaf_value catalog (tuple_of reach stack) leaf)
          → value_in (slot_value stack) (leaf_at_slot leaf
          (cond b (Some (record { item = r.place; column = column_place catalog r.item.table leaf.column; class = leaf.class })) (slot_in_reach catalog reach leaf)))
          ≡ fitted leaf.class (cond b (value_at (get_or stack r.place []) (column_place catalog r.item.table leaf.column)) (leaf_value catalog (tuple_of reach stack) leaf))
      go true h = (values (slot_value stack)).leaf (record { item = r.place; column = column_place catalog r.item.table leaf.column; class = leaf.class })
      go false h = h

  -- the value of a resolved expression, where each leaf's value is of its class
  pub resolved_value : (reach : List Placed) (e : Expr ColumnLeaf) → EachLeaf (λ l. IsOf l.class (leaf_value catalog (tuple_of reach stack) l)) e
      → value_in (slot_value stack) (mapped (leaf_expr_of catalog reach) e) ≡ value_in (leaf_value catalog (tuple_of reach stack)) e
  resolved_value reach e typed =
      mapped_value (leaf_expr_of catalog reach) (slot_value stack) (λ l. fitted l.class (leaf_value catalog (tuple_of reach stack) l)) e
      (each_from_all _ (resolved reach) (leaves_in e))
      ∙ same_values (λ l. fitted l.class (leaf_value catalog (tuple_of reach stack) l)) (leaf_value catalog (tuple_of reach stack)) e (each_same (leaves_in e) typed)
    where
      each_same : (ls : List ColumnLeaf) → AllByRecursion (λ l. IsOf l.class (leaf_value catalog (tuple_of reach stack) l)) ls
          → AllByRecursion (λ l. fitted l.class (leaf_value catalog (tuple_of reach stack) l) ≡ leaf_value catalog (tuple_of reach stack) l) ls
      each_same [] h = tt
      each_same (l ∷ ls) h = (fitted_same l.class (leaf_value catalog (tuple_of reach stack) l) h.0, each_same ls h.1)
