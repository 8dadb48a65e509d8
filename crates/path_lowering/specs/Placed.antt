-- Where the conditions of a SELECT stand.
use Rattle.std.specs.Prelude.{ℕ, suc, true, cond, nat_eq, nat_lt, List, [], ◌∷◌, ◌++◌, length, map, filter, max, None, Some}
use Rattle.pgq_base.specs.declared.value.Value.TheVariants as value
use Rattle.pgq_base.specs.Tables.{place_of}
use Rattle.expr_tree.specs.declared.tree.Expr.TheOpen.{Expr-F}
use Rattle.expr_tree.specs.declared.tree.Expr.TheFolds.{fold-Expr}
use Rattle.expr_tree.specs.declared.tree.Expr.TheVariants.{Lit}
use Rattle.expr_tree.specs.Leaves.{leaves_in}
use Rattle.sql_algebra.specs.declared.tree.FromItem.{FromItem}
use Rattle.sql_algebra.specs.declared.tree.Conjunct.{Conjunct}
use Rattle.sql_algebra.specs.declared.tree.Conjunct.TheVariants.{Plain}
use Rattle.sql_algebra.specs.declared.tree.ColumnLeaf.{ColumnLeaf}
use Rattle.graph_meaning.specs.Choices.{greatest}
use Rattle.path_lowering.specs.declared.placing.Source.{Source}
use Rattle.path_lowering.specs.declared.placing.Slot.{Slot}
use Rattle.path_lowering.specs.Emitted.{SqlCondition}

-- the number of the item under whose alias a leaf stands; a leaf of a select around this one asks for no item
abbrev pub item_of : List (List ℕ) → ColumnLeaf → ℕ
item_of aliases leaf = cond (nat_lt (place_of leaf.alias aliases) (length aliases)) (place_of leaf.alias aliases) 0

-- the first item by which all leaves of a condition stand
abbrev pub latest_of : List (List ℕ) → SqlCondition → ℕ
latest_of aliases condition = greatest (map (item_of aliases) (leaves_in condition))

-- the same, form by form
abbrev pub latest_step : List (List ℕ) → Expr-F ColumnLeaf ℕ → ℕ
latest_step aliases (Expr-F.Lit v) = 0
latest_step aliases (Expr-F.Null c) = 0
latest_step aliases (Expr-F.Leaf l) = item_of aliases l
latest_step aliases (Expr-F.Compare op a b) = max a b
latest_step aliases (Expr-F.All ns) = greatest ns
latest_step aliases (Expr-F.Any ns) = greatest ns
latest_step aliases (Expr-F.Not n) = n
latest_step aliases (Expr-F.Is n t negated) = n
latest_step aliases (Expr-F.InList n ns negated) = max n (greatest ns)
latest_step aliases (Expr-F.Between a b c negated) = max a (max b c)
latest_step aliases (Expr-F.Coalesce ns) = greatest ns

abbrev pub latest_in : List (List ℕ) → SqlCondition → ℕ
latest_in aliases = fold-Expr ColumnLeaf ℕ (latest_step aliases)

abbrev pub standing_by : List (List ℕ) → ℕ → List SqlCondition → List SqlCondition
standing_by aliases number conditions = filter (λ condition. nat_eq (latest_of aliases condition) number) conditions

-- ON TRUE where nothing else is put there
abbrev pub or_true : List SqlCondition → List SqlCondition
or_true [] = Lit (value.Truth true) ∷ []
or_true (e ∷ es) = e ∷ es

abbrev pub joined_items : List (List ℕ) → List SqlCondition → ℕ → List Source → List FromItem
joined_items aliases conditions number [] = []
joined_items aliases conditions number (source ∷ sources) =
    record { table = source.table; alias = source.alias; on = Some (or_true (standing_by aliases number conditions)) }
    ∷ joined_items aliases conditions (suc number) sources

-- the first item begins the chain, each other has an ON
abbrev pub chain_of : List (List ℕ) → List SqlCondition → List Source → List FromItem
chain_of aliases conditions [] = []
chain_of aliases conditions (source ∷ sources) =
    record { table = source.table; alias = source.alias; on = None } ∷ joined_items aliases conditions 1 sources

abbrev pub from_of : List Source → List SqlCondition → List FromItem
from_of sources conditions = chain_of (map (λ source. source.alias) sources) conditions sources

-- what stands by the first item stands in WHERE
abbrev pub where_of : List Source → List SqlCondition → List Conjunct
where_of sources conditions = map Plain (standing_by (map (λ source. source.alias) sources) 0 conditions)

-- the aliases of slots
abbrev pub aliases_of : List Slot → List (List ℕ)
aliases_of slots = map (λ slot. slot.source.alias) slots

-- slots with the conditions that stand by them added, from a number on
abbrev pub put_into : List (List ℕ) → List SqlCondition → ℕ → List Slot → List Slot
put_into aliases conditions number [] = []
put_into aliases conditions number (slot ∷ slots) =
    record { source = slot.source; members = slot.members ++ standing_by aliases number conditions } ∷ put_into aliases conditions (suc number) slots

abbrev pub opened : Source → Slot
opened source = record { source = source; members = [] }

abbrev pub joined_item : Slot → FromItem
joined_item slot = record { table = slot.source.table; alias = slot.source.alias; on = Some (or_true slot.members) }

abbrev pub slots_from : List Slot → List FromItem
slots_from [] = []
slots_from (slot ∷ slots) = record { table = slot.source.table; alias = slot.source.alias; on = None } ∷ map joined_item slots

abbrev pub slots_where : List Slot → List Conjunct
slots_where [] = []
slots_where (slot ∷ slots) = map Plain slot.members
