-- The FROM items of a block and its conditions.
use Rattle.std.specs.Prelude.{◌≡◌, ◌↔◌, ◌⊎◌, ℕ, suc, Bool, true, false, ◌&&◌, cond, nat_eq, List, [], ◌∷◌, ◌++◌, map, flat_map, length, drop, bytes_eq, Option, None, Some}
use Rattle.std.specs.List.{list_any, list_all}
use Rattle.pgq_base.specs.declared.value.Value.{Value}
use Rattle.graph_ast.specs.declared.catalog.Catalog.{Catalog}
use Rattle.graph_ast.specs.declared.catalog.Graph.{Graph}
use Rattle.graph_ast.specs.declared.checked.CheckedPath.{CheckedPath}
use Rattle.graph_ast.specs.declared.checked.Output.{Output}
use Rattle.graph_ast.specs.declared.blocks.Tags.{Tags}
use Rattle.graph_ast.specs.declared.blocks.Alternative.{Alternative}
use Rattle.graph_ast.specs.declared.blocks.PathBlock.{PathBlock}
use Rattle.graph_ast.specs.Lookups.{table_at}
use Rattle.expr_tree.specs.Leaves.{EachLeaf}
use Rattle.expr_tree.specs.Meaning.{truth_in}
use Rattle.multisets.specs.Bags.{IsIn}
use Rattle.pgq_base.specs.Instances.{InstanceRows}
use Rattle.graph_ast.specs.declared.checked.PropertyLeaf.{PropertyLeaf}
use Rattle.graph_meaning.specs.Lists.{agree}
use Rattle.graph_meaning.specs.View.{GraphElement, same_element}
use Rattle.graph_meaning.specs.Choices.{Condition, Scoped, expansion_of, place_count, tags_of, singletons_of}
use Rattle.graph_meaning.specs.Conditions.{Holding, is_met}
use Rattle.graph_meaning.specs.Readings.{meets_piece, meets_condition}
use Rattle.graph_meaning.specs.Blocks.{is_feasible}
use Rattle.sql_algebra.specs.declared.tree.ColumnLeaf.{ColumnLeaf}
use Rattle.sql_algebra.specs.Tuples.{is_true}
use Rattle.sql_algebra.specs.declared.tree.SelectColumn.{SelectColumn}
use Rattle.path_lowering.specs.declared.spots.Kind.TheVariants.{Vertex}
use Rattle.path_lowering.specs.declared.spots.Spot.{Spot}
use Rattle.path_lowering.specs.Spots.{element_at, spots_along}
use Rattle.path_lowering.specs.Emitted.{SqlCondition, any_of, all_of, alias_of, choice_conditions, mode_conditions, sharing_conditions, lowered, spot_by}
use Rattle.path_lowering.specs.declared.placing.Source.{Source}

-- whether two places have a variable of some names in common
abbrev pub share_name : List (List ℕ) → Tags → Tags → Bool
share_name names a b = list_any (λ name. list_any (bytes_eq name) a.names && list_any (bytes_eq name) b.names) names

-- the item of the earliest of some places that shares a name
abbrev pub shared_item : List (List ℕ) → Tags → List (Tags × ℕ) → Option ℕ
shared_item names tags [] = None
shared_item names tags (earlier ∷ more) = cond (share_name names earlier.0 tags) (Some earlier.1) (shared_item names tags more)

-- each place has the item of the earliest place with which it shares a name, or else the next one
abbrev pub plan_after : List (List ℕ) → List (Tags × ℕ) → ℕ → List Tags → List ℕ
plan_after names earlier next [] = []
plan_after names earlier next (tags ∷ more) =
    elim (shared_item names tags earlier) [
      | Some item ↦ item ∷ plan_after names (earlier ++ (tags, item) ∷ []) next more
      | None ↦ next ∷ plan_after names (earlier ++ (tags, next) ∷ []) (suc next) more
    ]

abbrev pub plan_of : List (List ℕ) → List Tags → List ℕ
plan_of names tags = plan_after names [] 0 tags

-- the places of each path
abbrev pub path_spots : List PathBlock → List ℕ → List (List Spot)
path_spots [] items = []
path_spots (part ∷ parts) items = spots_along Vertex part.elements items ∷ path_spots parts (drop (length part.elements) items)

-- the places that begin an item
abbrev pub own_spots : ℕ → List Spot → List Spot
own_spots next [] = []
own_spots next (spot ∷ spots) = cond (nat_eq spot.item next) (spot ∷ own_spots (suc next) spots) (own_spots next spots)

module _ (catalog : Catalog) (graph : Graph) (prefix : ℕ) where
  -- the table of a place, under the alias of its item
  abbrev pub source_of : Spot → Source
  source_of spot = record { table = (table_at catalog (element_at graph spot).table).name; alias = alias_of prefix spot.item }

  abbrev pub sources_of : List Spot → List Source
  sources_of spots = map source_of (own_spots 0 spots)

  -- the conditions of each alternative of a path block
  abbrev pub alternatives_of : CheckedPath → PathBlock → List Spot → List (List SqlCondition)
  alternatives_of path part spots = map (λ choice. choice_conditions catalog graph prefix (expansion_of path choice) spots) part.alternatives

  -- a column
  abbrev pub column_for : List Tags → List Spot → Output → SelectColumn
  column_for tags spots output = record { value = lowered catalog graph prefix (spot_by tags spots) output.value; name = output.name }

  -- the condition after the whole pattern
  abbrev pub where_for : List Tags → List Spot → Option Condition → List SqlCondition
  where_for tags spots None = []
  where_for tags spots (Some condition) = lowered catalog graph prefix (spot_by tags spots) condition ∷ []

-- all that a choice asks of a walk but its length, said of what stands at the places
abbrev pub reads_at : Graph → InstanceRows → CheckedPath → Alternative → List GraphElement → Bool
reads_at graph instance path choice elements =
    let expansion = expansion_of path choice in
    list_all (meets_piece graph elements) expansion.pieces
    && (agree same_element (singletons_of path) (tags_of path choice) elements
    && list_all (meets_condition graph instance elements) expansion.conditions)

abbrev pub meets_last : Graph → InstanceRows → Holding → Option Condition → Bool
meets_last graph instance held None = true
meets_last graph instance held (Some condition) = is_met graph instance held condition

-- no leaf is an element predicate
abbrev pub IsPlain : PropertyLeaf → Type 0
IsPlain leaf = leaf.test ≡ None

-- a path block of a path pattern
pub record IsPart (graph : Graph) (path : CheckedPath) (part : PathBlock) : Type 0 where
  pub feasible : (choice : Alternative) → IsIn choice part.alternatives → is_feasible graph path choice part.elements ≡ true
  pub sized : (choice : Alternative) → IsIn choice part.alternatives → length part.elements ≡ place_count (expansion_of path choice)
  pub tagged : (choice : Alternative) → IsIn choice part.alternatives → tags_of path choice ≡ part.tags
  pub plain : (choice : Alternative) → IsIn choice part.alternatives → (scoped : Scoped) → IsIn scoped (expansion_of path choice).conditions → EachLeaf IsPlain scoped.condition

-- conditions are True together exactly where those of some alternative are
abbrev pub SaysAny : List (List SqlCondition) → List SqlCondition → Type 0
SaysAny alternatives conditions =
    (env : ColumnLeaf → Value) → list_all (λ c. is_true (truth_in env c)) conditions ≡ list_any (λ alternative. list_all (λ c. is_true (truth_in env c)) alternative) alternatives

-- a path block, the places of its path, and conditions for its alternatives
pub record Laid : Type 0 where
  pub path : CheckedPath
  pub part : PathBlock
  pub spots : List Spot
  pub conditions : List SqlCondition

abbrev pub laid_tags : List Laid → List Tags
laid_tags parts = flat_map (λ laid. laid.part.tags) parts

abbrev pub laid_spots : List Laid → List Spot
laid_spots parts = flat_map (λ laid. laid.spots) parts

-- the conditions of a block: of each path its alternatives and its mode, then those of places of one singleton, then the last one
abbrev pub block_conditions : Catalog → Graph → ℕ → List (List ℕ) → List Laid → Option Condition → List SqlCondition
block_conditions catalog graph prefix names parts condition =
    flat_map (λ laid. laid.conditions ++ mode_conditions catalog graph prefix laid.path.mode laid.spots) parts
    ++ (sharing_conditions catalog graph prefix names (laid_tags parts) (laid_spots parts) ++ where_for catalog graph prefix (laid_tags parts) (laid_spots parts) condition)

-- each alternative's conditions are the common ones and the rest of its own
abbrev pub AreSplit : List SqlCondition → List (List SqlCondition) → List (List SqlCondition) → Type 0
AreSplit common [] [] = Unit {0}
AreSplit common [] (rest ∷ rests) = ⊥
AreSplit common (alternative ∷ alternatives) [] = ⊥
AreSplit common (alternative ∷ alternatives) (rest ∷ rests) =
    ((c : SqlCondition) → IsIn c alternative ↔ (IsIn c common ⊎ IsIn c rest)) × AreSplit common alternatives rests

abbrev pub is_empty : List SqlCondition → Bool
is_empty [] = true
is_empty (c ∷ cs) = false

-- what all alternatives share stands outside of one OR of the rest, which is left out where an alternative has no rest
abbrev pub shared_outside : List SqlCondition → List (List SqlCondition) → List SqlCondition
shared_outside common rests = cond (list_any is_empty rests) common (common ++ any_of (map all_of rests) ∷ [])
