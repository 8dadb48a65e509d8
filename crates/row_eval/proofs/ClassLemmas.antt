-- A resolved expression keeps the classes.
use Rattle.std.proofs.Common.{◌≡◌, cond, Bool, true, false, List, [], ◌∷◌, refl, ap, ◌∙◌, Some}
use Rattle.std.specs.Prelude.{bytes_eq}
use Rattle.expr_tree.specs.declared.tree.Expr.{Expr}
use Rattle.expr_tree.specs.Classes.{class_in, well_classed, IsWellClassed}
use Rattle.expr_tree.specs.Leaves.{leaves_in}
use Rattle.expr_tree.specs.Mapping.{mapped, KeepsClass}
use Rattle.expr_tree.proofs.Folds.{each_from_all}
use Rattle.expr_tree.proofs.FormLemmas.{classes, rules_kept}
use Rattle.expr_tree.proofs.LawLemmas.{mapped_class, mapped_rules}
use Rattle.graph_ast.specs.declared.catalog.Catalog.{Catalog}
use Rattle.sql_algebra.specs.declared.tree.ColumnLeaf.{ColumnLeaf}
use Rattle.sql_algebra.specs.Catalogs.{column_place}
use Rattle.sql_algebra.specs.Soundness.{leaf_class}
use Rattle.row_eval.specs.declared.frame.Slot.{Slot}
use Rattle.row_eval.specs.Slots.{slot_class}
use Rattle.row_eval.specs.Scopes.{Placed, slot_in_reach, leaf_at_slot, leaf_expr_of}

module _ (catalog : Catalog) where
  keeps : (reach : List Placed) (leaf : ColumnLeaf) → KeepsClass leaf_class slot_class (leaf_expr_of catalog reach) leaf
  keeps [] leaf = record { well_classed = (rules_kept slot_class).null leaf.class; class = (classes slot_class).null leaf.class }
  keeps (r ∷ reach) leaf = go (bytes_eq r.item.alias leaf.alias) refl (keeps reach leaf)
    where
      slot : Slot
      slot = record { item = r.place; column = column_place catalog r.item.table leaf.column; class = leaf.class }

      go : (b : Bool) → bytes_eq r.item.alias leaf.alias ≡ b → KeepsClass leaf_class slot_class (leaf_expr_of catalog reach) leaf
          → KeepsClass leaf_class slot_class (leaf_expr_of catalog (r ∷ reach)) leaf
      go true e h = record {
        well_classed = ap (λ b. well_classed slot_class (leaf_at_slot leaf (cond b (Some slot) (slot_in_reach catalog reach leaf)))) e ∙ (rules_kept slot_class).leaf slot;
        class = ap (λ b. class_in slot_class (leaf_at_slot leaf (cond b (Some slot) (slot_in_reach catalog reach leaf)))) e ∙ (classes slot_class).leaf slot;
      }
      go false e h = record {
        well_classed = ap (λ b. well_classed slot_class (leaf_at_slot leaf (cond b (Some slot) (slot_in_reach catalog reach leaf)))) e ∙ h.well_classed;
        class = ap (λ b. class_in slot_class (leaf_at_slot leaf (cond b (Some slot) (slot_in_reach catalog reach leaf)))) e ∙ h.class;
      }

  -- a resolved expression is well classed where the expression is
  pub resolved_rules : (reach : List Placed) (e : Expr ColumnLeaf) → IsWellClassed leaf_class e → IsWellClassed slot_class (mapped (leaf_expr_of catalog reach) e)
  resolved_rules reach e h = mapped_rules leaf_class slot_class (leaf_expr_of catalog reach) e (each_from_all _ (keeps reach) (leaves_in e)) ∙ h

  -- and has its class
  pub resolved_class : (reach : List Placed) (e : Expr ColumnLeaf) → class_in slot_class (mapped (leaf_expr_of catalog reach) e) ≡ class_in leaf_class e
  resolved_class reach e = mapped_class leaf_class slot_class (leaf_expr_of catalog reach) e (each_from_all _ (λ l. (keeps reach l).class) (leaves_in e))
