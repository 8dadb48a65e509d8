-- The queries that are served: those without the forms that no step takes away yet (this project's own, for the time being).
use Rattle.std.specs.Prelude.{Bool, true, false, not, ◌&&◌, is_none, Option, None, Some}
use Rattle.std.specs.List.{list_all}
use Rattle.expr_tree.specs.Leaves.{leaves_in}
use Rattle.graph_ast.specs.declared.query.QueryTree.{QueryTree}
use Rattle.graph_ast.specs.declared.query.PathTree.{PathTree}
use Rattle.graph_ast.specs.declared.query.Selector.{Selector}
use Rattle.graph_ast.specs.declared.query.SelectorKind.{SelectorKind}
use Rattle.graph_ast.specs.declared.query.SelectorKind.TheVariants as selector
use Rattle.graph_ast.specs.declared.query.Condition.{Condition}
use Rattle.graph_ast.specs.declared.query.PropertyRef.{PropertyRef}
use Rattle.graph_ast.specs.declared.query.Item.{Item}
use Rattle.pattern_check.specs.Scopes.{wheres}

-- no leaf of the condition asks something of an element itself
abbrev pub is_plain : Condition → Bool
is_plain condition = list_all (λ (leaf : PropertyRef). is_none leaf.test) (leaves_in condition.tree)

-- the item is no aggregate, and its leaves are properties
abbrev pub is_plain_item : Item → Bool
is_plain_item item = is_none item.gather && is_plain item.value

-- SHORTEST k GROUP
abbrev pub selects_groups : SelectorKind → Bool
selects_groups selector.AllShortest = false
selects_groups selector.Any = false
selects_groups (selector.AnyCount count) = false
selects_groups selector.AnyShortest = false
selects_groups (selector.Shortest count) = false
selects_groups (selector.ShortestGroup count) = true

abbrev pub is_group_selector : Option Selector → Bool
is_group_selector None = false
is_group_selector (Some words) = selects_groups words.kind

abbrev pub has_no_groups : PathTree → Bool
has_no_groups path = not (is_group_selector path.selector)

-- no path pattern selects groups, no condition has an element predicate, and no item is an aggregate
unfoldable pub is_served : QueryTree → Bool
is_served tree = list_all has_no_groups tree.paths && (list_all is_plain (wheres tree) && list_all is_plain_item tree.columns)
