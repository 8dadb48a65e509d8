-- The element patterns of steps whose parts are repeated, and what an edge pattern finds beside it.
use Rattle.std.specs.Prelude.{ℕ, ◌≡◌, ◌≤◌, ◌<◌, ◌+◌, ◌-◌, ◌*◌, ◌&&◌, Bool, true, false, List, [], ◌∷◌, ◌++◌, flat_map, replicate, length, Some}
use Rattle.graph_ast.specs.declared.catalog.Catalog.{Catalog}
use Rattle.graph_ast.specs.declared.catalog.Graph.{Graph}
use Rattle.graph_ast.specs.declared.checked.Pattern.{Pattern}
use Rattle.graph_ast.specs.declared.checked.Piece.{Piece}
use Rattle.graph_ast.specs.declared.checked.Piece.TheVariants as form
use Rattle.graph_ast.specs.declared.checked.Step.{Step}
use Rattle.graph_ast.specs.declared.checked.Step.TheVariants.{One, Part}
use Rattle.graph_ast.specs.declared.query.Direction.{Direction}
use Rattle.graph_ast.specs.Lookups.{edge_element}
use Rattle.graph_meaning.specs.Choices.{PlacedPiece, Scoped, edges_in, iterated}
use Rattle.graph_meaning.specs.Blocks.{may_lead}
use Rattle.path_lowering.specs.declared.spots.Spot.{Spot}
use Rattle.path_lowering.specs.Emitted.{goes_right, goes_left}
use Rattle.path_lowering.specs.Shortest.{spot_at}
use Rattle.path_lowering.specs.Shown.{IsJoint}

-- the element patterns of some steps, each part as often as its count says
abbrev pub repeated : List Step → List ℕ → List Piece
repeated [] counts = []
repeated (One piece ∷ steps) counts = piece ∷ repeated steps counts
repeated (Part lower upper pieces conditions ∷ steps) [] = []
repeated (Part lower upper pieces conditions ∷ steps) (count ∷ counts) = flat_map (λ x. x) (replicate count pieces) ++ repeated steps counts

-- the number of their edge patterns
abbrev pub edges_of : List Step → List ℕ → ℕ
edges_of [] counts = 0
edges_of (One (form.Vertex pattern) ∷ steps) counts = edges_of steps counts
edges_of (One (form.Edge direction pattern) ∷ steps) counts = 1 + edges_of steps counts
edges_of (Part lower upper pieces conditions ∷ steps) [] = 0
edges_of (Part lower upper pieces conditions ∷ steps) (count ∷ counts) = count * edges_in pieces + edges_of steps counts

-- the conditions of parts in each of their iterations, where so many edge patterns stand before
abbrev pub scoped_in : ℕ → List Step → List ℕ → List Scoped
scoped_in j [] counts = []
scoped_in j (One (form.Vertex pattern) ∷ steps) counts = scoped_in j steps counts
scoped_in j (One (form.Edge direction pattern) ∷ steps) counts = scoped_in (j + 1) steps counts
scoped_in j (Part lower upper pieces conditions ∷ steps) [] = []
scoped_in j (Part lower upper pieces conditions ∷ steps) (count ∷ counts) =
    iterated j (replicate count (record { pieces = pieces; conditions = conditions })) ++ scoped_in (j + count * edges_in pieces) steps counts

-- whether an edge may be read rightwards between its neighbours, and leftwards
abbrev pub may_go_right : Graph → Direction → Spot → Spot → Spot → Bool
may_go_right graph direction left edge right = goes_right direction && may_lead (edge_element graph edge.element) (Some left.element) (Some right.element)

abbrev pub may_go_left : Graph → Direction → Spot → Spot → Spot → Bool
may_go_left graph direction left edge right = goes_left direction && may_lead (edge_element graph edge.element) (Some right.element) (Some left.element)

-- an edge may be read in one of the ways of its direction, and its ends may be compared with its neighbours' keys in each
pub record IsReadable (catalog : Catalog) (graph : Graph) (direction : Direction) (left edge right : Spot) : Type 0 where
  pub there : edge.element < length graph.edges
  pub rightward : may_go_right graph direction left edge right ≡ true → IsJoint catalog graph left edge right
  pub leftward : may_go_left graph direction left edge right ≡ true → IsJoint catalog graph right edge left
  pub one_way : may_go_right graph direction left edge right ≡ false → may_go_left graph direction left edge right ≡ true

-- an edge pattern has a place between two others
pub record IsBetween (catalog : Catalog) (graph : Graph) (spots : List Spot) (place : ℕ) (direction : Direction) : Type 0 where
  pub behind : 1 ≤ place
  pub within : place + 1 < length spots
  pub readable : IsReadable catalog graph direction (spot_at spots (place - 1)) (spot_at spots place) (spot_at spots (place + 1))

-- so has an element pattern, if it is one of an edge
abbrev pub IsPieceAt : Catalog → Graph → List Spot → PlacedPiece → Type 0
IsPieceAt catalog graph spots piece = (direction : Direction) (pattern : Pattern) → piece.1 ≡ form.Edge direction pattern → IsBetween catalog graph spots piece.0 direction
