-- NOT EXISTS of each shorter candidate between two places of the SELECT around it, by what SQL means alone (this project's own).
use Rattle.std.specs.Prelude.{◌≡◌, ℕ, ◌-◌, ◌<◌, Bool, ◌&&◌, nat_eq, nat_lt, List, [], ◌++◌, length, map, filter, slice_get, Option, None, Some}
use Rattle.std.specs.List.{list_all, list_any}
use Rattle.pgq_base.specs.declared.value.Value.{Value}
use Rattle.pgq_base.specs.Instances.{InstanceRows}
use Rattle.multisets.specs.Bags.{IsIn}
use Rattle.expr_tree.specs.declared.tree.Comparison.TheVariants.{Equal}
use Rattle.expr_tree.specs.declared.tree.Expr.TheVariants.{Leaf, Compare}
use Rattle.expr_tree.specs.Leaves.{EachLeaf}
use Rattle.expr_tree.specs.Meaning.{compare_by}
use Rattle.graph_ast.specs.declared.catalog.Catalog.{Catalog}
use Rattle.graph_meaning.specs.Lists.{numbers_below}
use Rattle.sql_algebra.specs.declared.tree.Candidate.{Candidate}
use Rattle.sql_algebra.specs.declared.tree.ColumnLeaf.{ColumnLeaf}
use Rattle.sql_algebra.specs.declared.tree.Conjunct.{Conjunct}
use Rattle.sql_algebra.specs.declared.tree.Conjunct.TheVariants.{Plain, NotExists}
use Rattle.sql_algebra.specs.declared.tree.FromItem.{FromItem}
use Rattle.sql_algebra.specs.declared.tree.Select.{Select}
use Rattle.sql_algebra.specs.Tuples.{Tuple, tuples, leaf_value, is_true, holds, all_members}
use Rattle.sql_algebra.specs.Meaning.{conjunct_holds}
use Rattle.path_lowering.specs.Emitted.{SqlCondition, alias_of}
use Rattle.shortest_lowering.specs.Comparable.{with_conjuncts}

-- ---- what is asked of a candidate

-- no conjunct is NOT EXISTS
pub record ArePlain (conjuncts : List Conjunct) : Type 0 where
  pub conditions : List SqlCondition
  pub are : conjuncts ≡ map Plain conditions

-- the leaf is on the alias of one of the items
abbrev pub IsAmong : List FromItem → ColumnLeaf → Type 0
IsAmong items leaf = IsIn leaf.alias (map (λ item. item.alias) items)

-- the leaf is on the alias of the item at a place
abbrev pub IsOn : List FromItem → ℕ → ColumnLeaf → Type 0
IsOn items place leaf = (place < length items) × (leaf.alias ≡ alias_of 83 place)

-- The aliases are S0, S1 and so on, no conjunct is NOT EXISTS, each leaf is on an alias of the SELECT's own, and the leaves of the keys are on
-- those of the first and of the last place.
pub record IsFormed (candidate : Candidate) : Type 0 where
  pub aliases : map (λ item. item.alias) candidate.select.from ≡ map (alias_of 83) (numbers_below (length candidate.select.from))
  pub plain : ArePlain candidate.select.conjuncts
  pub columns : (e : SqlCondition) → IsIn e (map (λ column. column.value) candidate.select.columns) → EachLeaf (IsAmong candidate.select.from) e
  pub members : (e : SqlCondition) → IsIn e (all_members candidate.select.from) → EachLeaf (IsAmong candidate.select.from) e
  pub conditions : (e : SqlCondition) → IsIn e plain.conditions → EachLeaf (IsAmong candidate.select.from) e
  pub first_key : (leaf : ColumnLeaf) → IsIn leaf candidate.first_key → IsOn candidate.select.from 0 leaf
  pub last_key : (leaf : ColumnLeaf) → IsIn leaf candidate.last_key → IsOn candidate.select.from (length candidate.select.from - 1) leaf

-- ---- what is made of it

-- the other candidate is shorter, and has the same first and last element
abbrev pub is_shorter : Candidate → Candidate → Bool
is_shorter own other = nat_lt other.length own.length && (nat_eq other.first own.first && nat_eq other.last own.last)

-- those that are shorter than the one at a place
abbrev pub shorter_candidates : List Candidate → ℕ → List Candidate
shorter_candidates candidates place = elim (slice_get candidates place) [ None ↦ [] | Some own ↦ filter (is_shorter own) candidates ]

-- the same column in the SELECT around it, under the alias A of a number
abbrev pub outer_leaf : ℕ → ColumnLeaf → ColumnLeaf
outer_leaf number leaf = record { alias = alias_of 65 number; column = leaf.column; class = leaf.class }

abbrev pub key_equalities : ℕ → List ColumnLeaf → List SqlCondition
key_equalities number key = map (λ leaf. Compare Equal (Leaf leaf) (Leaf (outer_leaf number leaf))) key

abbrev pub end_equalities : Candidate → ℕ → ℕ → List SqlCondition
end_equalities candidate first last = key_equalities first candidate.first_key ++ key_equalities last candidate.last_key

-- the SELECT of a candidate, whose ends have the keys of two places of the SELECT around it
abbrev pub select_between : ℕ → ℕ → Candidate → Select
select_between first last candidate = with_conjuncts candidate.select (map Plain (end_equalities candidate first last))

abbrev pub none_between : ℕ → ℕ → List Candidate → List Conjunct
none_between first last candidates = map (λ candidate. NotExists (select_between first last candidate)) candidates

-- ---- what that means

module _ (catalog : Catalog) (instance : InstanceRows) where
  -- every condition of a SELECT is True of a tuple
  abbrev pub are_all_true : Select → Tuple → Bool
  are_all_true select tuple =
      list_all (holds catalog tuple) (all_members select.from) && list_all (λ conjunct. conjunct_holds catalog instance conjunct tuple) select.conjuncts

  -- the tuples of a SELECT by itself of which every condition is True
  abbrev pub true_tuples : Select → List Tuple
  true_tuples select = filter (are_all_true select) (tuples catalog instance select.from)

  -- by SQL's equality, which is not True of Null
  abbrev pub is_equal : Value → Value → Bool
  is_equal a b = is_true (compare_by Equal a b)

  -- a key has in a tuple the values that it has outside under the alias A of a number
  abbrev pub has_key : Tuple → ℕ → List ColumnLeaf → Tuple → Bool
  has_key outer number key own = list_all (λ leaf. is_equal (leaf_value catalog own leaf) (leaf_value catalog outer (outer_leaf number leaf))) key

  abbrev pub has_ends : Tuple → ℕ → ℕ → Candidate → Tuple → Bool
  has_ends outer first last candidate own = has_key outer first candidate.first_key own && has_key outer last candidate.last_key own

  -- a candidate has a row between the ends of an outer tuple
  abbrev pub has_row_between : Tuple → ℕ → ℕ → Candidate → Bool
  has_row_between outer first last candidate = list_any (has_ends outer first last candidate) (true_tuples candidate.select)
