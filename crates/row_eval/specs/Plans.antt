-- What the stages of a select find: the tuples of the select.
use Rattle.std.specs.Prelude.{◌≡◌, Bool, true, cond, List, [], ◌∷◌, ◌++◌, map, filter, flat_map, length}
use Rattle.std.specs.List.{list_all}
use Rattle.pgq_base.specs.Instances.{InstanceRows}
use Rattle.expr_tree.specs.declared.tree.Expr.{Expr}
use Rattle.graph_ast.specs.declared.catalog.Catalog.{Catalog}
use Rattle.sql_algebra.specs.declared.tree.FromItem.{FromItem}
use Rattle.sql_algebra.specs.declared.tree.ColumnLeaf.{ColumnLeaf}
use Rattle.sql_algebra.specs.declared.tree.Select.{Select}
use Rattle.sql_algebra.specs.declared.tree.Conjunct.{Conjunct, Conjunct-F, out-Conjunct}
use Rattle.sql_algebra.specs.Tuples.{Tuple, tuples_under, all_members}
use Rattle.sql_algebra.specs.Meaning.{has_none, select_holds, select_rows, conjunct_holds}
use Rattle.row_eval.specs.declared.stage.Stage.{Stage}
use Rattle.row_eval.specs.Slots.{Stack}
use Rattle.row_eval.specs.Stages.{found}
use Rattle.row_eval.specs.Scopes.{Placed, reach_under, tuple_of}
use Rattle.row_eval.specs.Typed.{IsTyped}

abbrev pub items_in : List Placed → List FromItem
items_in reach = map (λ (r : Placed). r.item) reach

abbrev pub plain_at : Conjunct-F Conjunct Select → List (Expr ColumnLeaf)
plain_at (Conjunct-F.Plain condition) = condition ∷ []
plain_at (Conjunct-F.NotExists select) = []

-- the members of each ON, and the conjuncts that are plain conditions
abbrev pub conditions_in : List FromItem → List Conjunct → List (Expr ColumnLeaf)
conditions_in items conjuncts = all_members items ++ flat_map (λ conjunct. plain_at (out-Conjunct conjunct)) conjuncts

abbrev pub is_absent_at : Catalog → InstanceRows → Tuple → Conjunct-F Conjunct Select → Bool
is_absent_at catalog instance tuple (Conjunct-F.Plain condition) = true
is_absent_at catalog instance tuple (Conjunct-F.NotExists select) = has_none (select_rows catalog instance select tuple)

-- each NOT EXISTS among the conjuncts is True of the tuple
abbrev pub all_absent : Catalog → InstanceRows → List Conjunct → Tuple → Bool
all_absent catalog instance conjuncts tuple = list_all (λ conjunct. is_absent_at catalog instance tuple (out-Conjunct conjunct)) conjuncts

-- stages that find a stack where each NOT EXISTS is True of it
abbrev pub IsEndOf : Catalog → InstanceRows → List Conjunct → List Placed → List Stage → Type 0
IsEndOf catalog instance conjuncts reach stages =
    (s : Stack) → length s ≡ length reach → IsTyped catalog (tuple_of reach s) → found instance stages s
    ≡ cond (all_absent catalog instance conjuncts (tuple_of reach s)) (s ∷ []) []

-- the tuples of a select under an outer one of which its conditions are True
abbrev pub kept_by : Catalog → InstanceRows → Select → Tuple → List Tuple
kept_by catalog instance select outer =
    filter (select_holds catalog (record { columns = select.columns; from = select.from; conjuncts = map (conjunct_holds catalog instance) select.conjuncts }))
    (tuples_under catalog instance select.from outer)

-- stages that find the rows of these tuples on top of those in reach
abbrev pub IsPlanOf : Catalog → InstanceRows → Select → List Placed → List Stage → Type 0
IsPlanOf catalog instance select outer stages =
    (s : Stack) → length s ≡ length outer → IsTyped catalog (tuple_of outer s) → map (tuple_of (reach_under select.from outer)) (found instance stages s)
    ≡ kept_by catalog instance select (tuple_of outer s)
