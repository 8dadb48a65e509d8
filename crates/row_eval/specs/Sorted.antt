-- Conditions that are sorted by the row that decides them: those that are decided before the first row of a chain, and
-- with each leg those that its row decides.
use Rattle.std.specs.Prelude.{◌≡◌, ℕ, suc, ◌<◌, ◌≤◌, Bool, true, ◌&&◌, List, [], ◌∷◌, map, length}
use Rattle.std.specs.List.{list_all, AllByRecursion}
use Rattle.expr_tree.specs.declared.tree.Expr.{Expr}
use Rattle.expr_tree.specs.Mapping.{mapped}
use Rattle.pgq_base.specs.Tables.{place_of}
use Rattle.graph_ast.specs.declared.catalog.Catalog.{Catalog}
use Rattle.graph_ast.specs.declared.catalog.Table.{Table}
use Rattle.sql_algebra.specs.declared.tree.FromItem.{FromItem}
use Rattle.sql_algebra.specs.declared.tree.ColumnLeaf.{ColumnLeaf}
use Rattle.row_eval.specs.declared.access.Key.{Key}
use Rattle.row_eval.specs.declared.frame.Slot.{Slot}
use Rattle.row_eval.specs.declared.sorting.Sorted.{Sorted}
use Rattle.row_eval.specs.Scopes.{Placed, leaf_expr_of}
use Rattle.row_eval.specs.declared.frame.Condition.{Condition}
use Rattle.row_eval.specs.declared.legs.Leg.{Leg}
use Rattle.row_eval.specs.Levels.{level_in}
use Rattle.row_eval.specs.Slots.{Stack, is_kept}
use Rattle.row_eval.specs.Ways.{ways_at}

abbrev pub each_passes : (Expr Slot → Bool) → List Condition → Bool
each_passes test conditions = list_all (λ (c : Condition). test c.expr) conditions

-- each of the conditions passes the test
abbrev pub all_pass : (Expr Slot → Bool) → List Condition → List Leg → Bool
all_pass test first legs = each_passes test first && list_all (λ (leg : Leg). each_passes test leg.tests) legs

abbrev pub AreDecidedAt : ℕ → List Leg → Type 0
AreDecidedAt depth [] = Unit {0}
AreDecidedAt depth (leg ∷ legs) = AllByRecursion (λ (c : Condition). level_in c.expr ≡ suc depth) leg.tests × AreDecidedAt (suc depth) legs

-- each condition stands at the row that decides it, where a stack of this many rows is there before the legs
pub record IsSorted (depth : ℕ) (before : List Condition) (chain : List Leg) : Type 0 where
  pub first : AllByRecursion (λ (c : Condition). level_in c.expr ≤ depth) before
  pub legs : AreDecidedAt depth chain

-- the place of an item's table
abbrev pub table_place_of : Catalog → FromItem → ℕ
table_place_of catalog item = place_of item.table (map (λ (t : Table). t.name) catalog.tables)

-- the leg of an item, without a test
abbrev pub bare_leg : Catalog → FromItem → Leg
bare_leg catalog item = record { table = table_place_of catalog item; tests = []; ways = [] }

abbrev pub leg_tables : List Leg → List ℕ
leg_tables legs = map (λ (leg : Leg). leg.table) legs

abbrev pub leg_ways : List Leg → List (List Key)
leg_ways legs = map (λ (leg : Leg). leg.ways) legs

-- each row of a stack, from a place on, is one that one of the ways of its leg gives
abbrev pub AreNarrow : Stack → ℕ → List (List Key) → Type 0
AreNarrow stack place [] = Unit {0}
AreNarrow stack place (ways ∷ others) = (place < length stack → ways_at place stack ways ≡ true) × AreNarrow stack (suc place) others

-- so it is in each stack of which all conditions are True
abbrev pub IsNarrow : ℕ → Sorted → Type 0
IsNarrow depth sorted = (t : Stack) → all_pass (is_kept t) sorted.first sorted.legs.items ≡ true → AreNarrow t depth (leg_ways sorted.legs.items)

-- legs have got ways that are right where the condition is True, and nothing else is changed
pub record Narrows (depth : ℕ) (condition : Expr Slot) (old new : Sorted) : Type 0 where
  pub all : (test : Expr Slot → Bool) → all_pass test new.first new.legs.items ≡ all_pass test old.first old.legs.items
  pub sorted : IsSorted depth old.first old.legs.items → IsSorted depth new.first new.legs.items
  pub tables : leg_tables new.legs.items ≡ leg_tables old.legs.items
  pub narrow : (t : Stack) → is_kept t condition ≡ true → AreNarrow t depth (leg_ways old.legs.items) → AreNarrow t depth (leg_ways new.legs.items)

-- the conditions are sorted in beside those that are there
pub record Adds (catalog : Catalog) (reach : List Placed) (depth : ℕ) (conditions : List (Expr ColumnLeaf)) (old new : Sorted) : Type 0 where
  pub all : (test : Expr Slot → Bool)
      → all_pass test new.first new.legs.items ≡ (all_pass test old.first old.legs.items && list_all (λ e. test (mapped (leaf_expr_of catalog reach) e)) conditions)
  pub sorted : IsSorted depth new.first new.legs.items
  pub tables : leg_tables new.legs.items ≡ leg_tables old.legs.items
  pub narrow : IsNarrow depth old → IsNarrow depth new

-- one condition more
abbrev pub AddsTest : Expr Slot → Sorted → Sorted → Type 0
AddsTest e old new = (test : Expr Slot → Bool) → all_pass test new.first new.legs.items ≡ (all_pass test old.first old.legs.items && test e)

-- each of the conditions passes a test exactly where each of those that are sorted does
abbrev pub SortsAll : Catalog → List Placed → List (Expr ColumnLeaf) → Sorted → Type 0
SortsAll catalog reach conditions sorted =
    (test : Expr Slot → Bool) → all_pass test sorted.first sorted.legs.items ≡ list_all (λ e. test (mapped (leaf_expr_of catalog reach) e)) conditions
