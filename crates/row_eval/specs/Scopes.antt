-- Names by place: which row of a stack, and which column of it, a leaf means.
use Rattle.std.specs.Prelude.{ℕ, suc, ◌<◌, cond, List, [], ◌∷◌, ◌++◌, map, length, slice_index_or, Option, None, Some, bytes_eq}
use Rattle.std.specs.List.{AllByRecursion}
use Rattle.graph_ast.specs.declared.catalog.Catalog.{Catalog}
use Rattle.expr_tree.specs.declared.tree.Expr.{Expr}
use Rattle.expr_tree.specs.declared.tree.Expr.TheVariants as e
use Rattle.sql_algebra.specs.declared.tree.FromItem.{FromItem}
use Rattle.sql_algebra.specs.declared.tree.ColumnLeaf.{ColumnLeaf}
use Rattle.sql_algebra.specs.Catalogs.{column_place}
use Rattle.sql_algebra.specs.Tuples.{Tuple}
use Rattle.row_eval.specs.declared.frame.Slot.{Slot}
use Rattle.row_eval.specs.declared.scope.Reached.{Reached}
use Rattle.row_eval.specs.Slots.{Stack}

-- an item in reach, and which row of the stack is its row
pub record Placed : Type 0 where
  pub item : FromItem
  pub place : ℕ

abbrev pub placed : List Reached → List Placed
placed reach = map (λ (r : Reached). record { item = r.item.now; place = r.place }) reach

abbrev pub own_places : ℕ → List FromItem → List Placed
own_places place [] = []
own_places place (item ∷ items) = record { item = item; place = place } ∷ own_places (suc place) items

-- The items of a select, whose rows lie on top of those in reach around it, and behind them these.
abbrev pub reach_under : List FromItem → List Placed → List Placed
reach_under items outer = own_places (length outer) items ++ outer

-- each place is one of the first rows
abbrev pub AreBelow : ℕ → List Placed → Type 0
AreBelow n reach = AllByRecursion (λ (r : Placed). r.place < n) reach

-- the items in reach with their rows of the stack
abbrev pub tuple_of : List Placed → Stack → Tuple
tuple_of reach stack = map (λ (r : Placed). record { item = r.item; row = slice_index_or stack r.place [] }) reach

abbrev pub slot_in_reach : Catalog → List Placed → ColumnLeaf → Option Slot
slot_in_reach catalog [] leaf = None
slot_in_reach catalog (r ∷ reach) leaf =
    cond (bytes_eq r.item.alias leaf.alias)
    (Some (record { item = r.place; column = column_place catalog r.item.table leaf.column; class = leaf.class }))
    (slot_in_reach catalog reach leaf)

abbrev pub leaf_at_slot : ColumnLeaf → Option Slot → Expr Slot
leaf_at_slot leaf None = e.Null leaf.class
leaf_at_slot leaf (Some slot) = e.Leaf slot

-- what stands in place of a leaf
abbrev pub leaf_expr_of : Catalog → List Placed → ColumnLeaf → Expr Slot
leaf_expr_of catalog reach leaf = leaf_at_slot leaf (slot_in_reach catalog reach leaf)
