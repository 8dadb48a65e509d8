-- The conditions of a SELECT over the places of a block: which columns they compare.
use Rattle.std.specs.Prelude.{ℕ, ◌+◌, ◌-◌, Bool, true, false, ◌&&◌, cond, nat_eq, List, [], ◌∷◌, ◌++◌, map, filter, flat_map, decimal, slice_get, Option, None, Some}
use Rattle.std.specs.List.{list_all}
use Rattle.expr_tree.specs.declared.tree.Comparison.{Comparison}
use Rattle.expr_tree.specs.declared.tree.Comparison.TheVariants.{Equal, NotEqual}
use Rattle.expr_tree.specs.declared.tree.Expr.{Expr}
use Rattle.expr_tree.specs.declared.tree.Expr.TheVariants.{Null, Leaf, Compare, All, Any}
use Rattle.pgq_base.specs.declared.value.Value.{Value}
use Rattle.expr_tree.specs.Mapping.{mapped}
use Rattle.expr_tree.specs.Meaning.{truth_in}
use Rattle.sql_algebra.specs.Tuples.{is_true}
use Rattle.graph_ast.specs.declared.catalog.Catalog.{Catalog}
use Rattle.graph_ast.specs.declared.catalog.Graph.{Graph}
use Rattle.graph_ast.specs.declared.catalog.Element.{Element}
use Rattle.graph_ast.specs.declared.catalog.End.{End}
use Rattle.graph_ast.specs.declared.checked.PropertyLeaf.{PropertyLeaf}
use Rattle.graph_ast.specs.declared.checked.Piece.TheVariants as form
use Rattle.graph_ast.specs.declared.query.Direction.{Direction}
use Rattle.graph_ast.specs.declared.query.Direction.TheVariants.{Right, Left, Either, Any as AnyDirection, Undirected}
use Rattle.graph_ast.specs.declared.query.Mode.{Mode}
use Rattle.graph_ast.specs.declared.query.Mode.TheVariants as mode
use Rattle.graph_ast.specs.declared.blocks.Tags.{Tags}
use Rattle.graph_ast.specs.Lookups.{table_at, column_at, edge_element, column_of}
use Rattle.graph_ast.specs.Types.{class_of_type}
use Rattle.graph_meaning.specs.Lists.{first_of, tagged}
use Rattle.graph_meaning.specs.Choices.{Condition, PlacedPiece, Scoped, Expansion}
use Rattle.graph_meaning.specs.Conditions.{place_in}
use Rattle.graph_meaning.specs.Bindings.{without_last}
use Rattle.graph_meaning.specs.Blocks.{may_lead}
use Rattle.sql_algebra.specs.declared.tree.ColumnLeaf.{ColumnLeaf}
use Rattle.path_lowering.specs.declared.spots.Kind.TheVariants as kind
use Rattle.path_lowering.specs.declared.spots.Spot.{Spot}
use Rattle.path_lowering.specs.Spots.{element_at}

abbrev pub SqlCondition : Type 0
SqlCondition = Expr ColumnLeaf

-- whether a condition is True, and whether all of some are, where each column has a value
abbrev pub is_true_in : (ColumnLeaf → Value) → SqlCondition → Bool
is_true_in env condition = is_true (truth_in env condition)

abbrev pub are_true : (ColumnLeaf → Value) → List SqlCondition → Bool
are_true env conditions = list_all (is_true_in env) conditions

-- the alias of a FROM item: a letter and its number
abbrev pub alias_of : ℕ → ℕ → List ℕ
alias_of prefix number = prefix ∷ decimal number

-- members of an OR and of an AND; one alone stands for itself
abbrev pub any_of : List SqlCondition → SqlCondition
any_of (e ∷ []) = e
any_of es = Any es

abbrev pub all_of : List SqlCondition → SqlCondition
all_of (e ∷ []) = e
all_of es = All es

-- whether an edge pattern may be read rightwards, and leftwards
abbrev pub goes_right : Direction → Bool
goes_right Right = true
goes_right Left = false
goes_right Either = true
goes_right AnyDirection = true
goes_right Undirected = false

abbrev pub goes_left : Direction → Bool
goes_left Right = false
goes_left Left = true
goes_left Either = true
goes_left AnyDirection = true
goes_left Undirected = false

-- at a two-way place one disjunction of both readings
abbrev pub read_either : Bool → Bool → List SqlCondition → List SqlCondition → List SqlCondition
read_either true true right left = Any (All right ∷ All left ∷ []) ∷ []
read_either true false right left = right
read_either false leftward right left = left

-- the place of a variable of some element patterns
abbrev pub spot_in : List PlacedPiece → List Spot → List ℕ → Option Spot
spot_in scope spots name = elim (place_in scope name) [ None ↦ None | Some place ↦ slice_get spots place ]

-- the first place that is tagged with a variable
abbrev pub spot_by : List Tags → List Spot → List ℕ → Option Spot
spot_by tags spots name = first_of (tagged name tags spots)

abbrev pub is_edge_spot : Spot → Bool
is_edge_spot spot = elim spot.kind [ kind.Vertex ↦ false | kind.Edge ↦ true ]

abbrev pub is_vertex_spot : Spot → Bool
is_vertex_spot spot = elim spot.kind [ kind.Vertex ↦ true | kind.Edge ↦ false ]

abbrev pub edge_spots : List Spot → List Spot
edge_spots spots = filter is_edge_spot spots

abbrev pub vertex_spots : List Spot → List Spot
vertex_spots spots = filter is_vertex_spot spots

-- a column of an element's table, under the alias of an item
abbrev pub leaf_in : Catalog → ℕ → Element → ℕ → ℕ → ColumnLeaf
leaf_in catalog prefix element item place =
    let column = column_at (table_at catalog element.table) place in
    record { alias = alias_of prefix item; column = column.name; class = class_of_type column.kind }

-- columns of one item compared with columns of another, pair by pair
abbrev pub compared_in : Catalog → ℕ → Comparison → Element → ℕ → List ℕ → Element → ℕ → List ℕ → List SqlCondition
compared_in catalog prefix op left i [] right j ys = []
compared_in catalog prefix op left i (x ∷ xs) right j [] = []
compared_in catalog prefix op left i (x ∷ xs) right j (y ∷ ys) =
    Compare op (Leaf (leaf_in catalog prefix left i x)) (Leaf (leaf_in catalog prefix right j y)) ∷ compared_in catalog prefix op left i xs right j ys

module _ (catalog : Catalog) (graph : Graph) (prefix : ℕ) where
  -- a column of the table at a place
  abbrev pub leaf_of : Spot → ℕ → ColumnLeaf
  leaf_of spot place = leaf_in catalog prefix (element_at graph spot) spot.item place

  -- columns of one place compared with columns of another, pair by pair
  abbrev pub compared_columns : Comparison → Spot → List ℕ → Spot → List ℕ → List SqlCondition
  compared_columns op a xs b ys = compared_in catalog prefix op (element_at graph a) a.item xs (element_at graph b) b.item ys

  -- an end of an edge refers to a vertex
  abbrev pub meets_end : Spot → End → Spot → List SqlCondition
  meets_end edge end vertex = compared_columns Equal edge end.columns vertex (element_at graph vertex).key

  -- an edge leads from one vertex to another
  abbrev pub leads_from : Spot → Spot → Spot → List SqlCondition
  leads_from from edge to =
      meets_end edge (edge_element graph edge.element).source from ++ meets_end edge (edge_element graph edge.element).destination to

  -- an edge joins its left and right neighbour in a direction
  abbrev pub edge_conditions : Direction → Spot → Spot → Spot → List SqlCondition
  edge_conditions direction left edge right =
      read_either (goes_right direction && may_lead (edge_element graph edge.element) (Some left.element) (Some right.element))
      (goes_left direction && may_lead (edge_element graph edge.element) (Some right.element) (Some left.element))
      (leads_from left edge right) (leads_from right edge left)

  abbrev pub between : Direction → Option Spot → Option Spot → Option Spot → List SqlCondition
  between direction (Some left) (Some edge) (Some right) = edge_conditions direction left edge right
  between direction left edge right = []

  abbrev pub piece_conditions : List Spot → PlacedPiece → List SqlCondition
  piece_conditions spots piece =
      elim piece.1
      [ form.Vertex pattern ↦ [] | form.Edge direction pattern ↦ between direction (slice_get spots (piece.0 - 1)) (slice_get spots piece.0) (slice_get spots (piece.0 + 1)) ]

  -- a property is its column, and a Null of its class where the element has no such property
  abbrev pub lowered_property : Spot → PropertyLeaf → SqlCondition
  lowered_property spot leaf = elim (column_of (element_at graph spot) leaf.property) [ None ↦ Null leaf.class | Some column ↦ Leaf (leaf_of spot column) ]

  abbrev pub lowered_at : Option Spot → PropertyLeaf → SqlCondition
  lowered_at holder leaf = elim holder [ None ↦ Null leaf.class | Some spot ↦ lowered_property spot leaf ]

  abbrev pub lowered_leaf : (List ℕ → Option Spot) → PropertyLeaf → SqlCondition
  lowered_leaf holding leaf = lowered_at (holding leaf.variable) leaf

  abbrev pub lowered : (List ℕ → Option Spot) → Condition → SqlCondition
  lowered holding condition = mapped (lowered_leaf holding) condition

  abbrev pub scoped_condition : List Spot → Scoped → SqlCondition
  scoped_condition spots scoped = lowered (spot_in scoped.scope spots) scoped.condition

  -- two places of one element hold two elements: a key column differs
  abbrev pub differing : Spot → Spot → List SqlCondition
  differing x y =
      cond (nat_eq x.element y.element) (any_of (compared_columns NotEqual x (element_at graph x).key y (element_at graph y).key) ∷ []) []

  abbrev pub all_differing : List Spot → List SqlCondition
  all_differing [] = []
  all_differing (x ∷ xs) = flat_map (differing x) xs ++ all_differing xs

  -- the first and the last may be the same
  abbrev pub simply_differing : List Spot → List SqlCondition
  simply_differing [] = []
  simply_differing (x ∷ xs) = flat_map (differing x) (without_last xs) ++ all_differing xs

  abbrev pub mode_conditions : Mode → List Spot → List SqlCondition
  mode_conditions mode.Walk spots = []
  mode_conditions mode.Trail spots = all_differing (edge_spots spots)
  mode_conditions mode.Acyclic spots = all_differing (vertex_spots spots)
  mode_conditions mode.Simple spots = simply_differing (vertex_spots spots)

  -- places of two items hold one element
  abbrev pub same_key : Spot → Spot → List SqlCondition
  same_key x y = cond (nat_eq x.item y.item) [] (compared_columns Equal x (element_at graph x).key y (element_at graph y).key)

  abbrev pub all_same_key : List Spot → List SqlCondition
  all_same_key [] = []
  all_same_key (x ∷ xs) = flat_map (same_key x) xs

  -- the places of each singleton hold one element
  abbrev pub sharing_conditions : List (List ℕ) → List Tags → List Spot → List SqlCondition
  sharing_conditions names tags spots = flat_map (λ name. all_same_key (tagged name tags spots)) names

  -- a choice reads what stands at the places
  abbrev pub choice_conditions : Expansion → List Spot → List SqlCondition
  choice_conditions expansion spots = flat_map (piece_conditions spots) expansion.pieces ++ map (scoped_condition spots) expansion.conditions
