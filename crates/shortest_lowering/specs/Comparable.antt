-- What is asked of a path block under ALL SHORTEST and of its candidates, so that NOT EXISTS of each candidate can be made.
use Rattle.std.specs.Prelude.{ℕ, ◌≡◌, ◌≤◌, ◌<◌, List, [], length, filter, ◌++◌, slice_index_or}
use Rattle.multisets.specs.Bags.{IsIn}
use Rattle.graph_ast.specs.declared.catalog.Catalog.{Catalog}
use Rattle.graph_ast.specs.declared.catalog.Graph.{Graph}
use Rattle.graph_ast.specs.declared.checked.CheckedPath.{CheckedPath}
use Rattle.graph_ast.specs.declared.blocks.PathBlock.{PathBlock}
use Rattle.graph_ast.specs.Catalogs.{IsValidGraph}
use Rattle.graph_meaning.specs.Lists.{numbers_below, tagged}
use Rattle.graph_meaning.specs.Choices.{singletons_of}
use Rattle.graph_meaning.specs.Blocks.{path_blocks}
use Rattle.graph_meaning.specs.Weights.{is_candidate}
use Rattle.sql_algebra.specs.declared.tree.Select.{Select}
use Rattle.sql_algebra.specs.declared.tree.Conjunct.{Conjunct}
use Rattle.path_lowering.specs.declared.spots.Kind.TheVariants.{Vertex}
use Rattle.path_lowering.specs.declared.spots.Spot.{Spot}
use Rattle.path_lowering.specs.Spots.{element_at, spots_along}
use Rattle.path_lowering.specs.Emitted.{SqlCondition, mode_conditions, sharing_conditions}
use Rattle.path_lowering.specs.Blocks.{alternatives_of, sources_of}
use Rattle.path_lowering.specs.Apart.{apart}
use Rattle.path_lowering.specs.Layable.{IsLayable, AreEnds}

-- the places of a candidate: each has an item of its own
abbrev pub candidate_spots : PathBlock → List Spot
candidate_spots other = spots_along Vertex other.elements (numbers_below (length other.elements))

-- its conditions: those of its alternatives and of its mode, then those of places of one singleton
abbrev pub candidate_conditions : Catalog → Graph → ℕ → CheckedPath → PathBlock → List SqlCondition
candidate_conditions catalog graph prefix path other =
    let spots = candidate_spots other in
    (apart (alternatives_of catalog graph prefix path other spots) ++ mode_conditions catalog graph prefix path.mode spots)
    ++ sharing_conditions catalog graph prefix (singletons_of path) other.tags spots

-- a candidate can be laid along its places, and those of one singleton have one element
pub record IsStanding (catalog : Catalog) (graph : Graph) (path : CheckedPath) (other : PathBlock) : Type 0 where
  pub valid : IsValidGraph catalog graph
  pub layable : IsLayable graph path other
  pub alike : (name : List ℕ) (a b : Spot) → IsIn name (singletons_of path)
      → IsIn a (tagged name other.tags (candidate_spots other)) → IsIn b (tagged name other.tags (candidate_spots other)) → element_at graph a ≡ element_at graph b
  pub sources : (prefix : ℕ) → 1 ≤ length (sources_of catalog graph prefix (candidate_spots other))

-- and its ends can be compared with those of places outside
pub record IsPosed (catalog : Catalog) (graph : Graph) (path : CheckedPath) (outside : List Spot) (other : PathBlock) : Type 0 where
  pub standing : IsStanding catalog graph path other
  pub ends : AreEnds catalog graph (candidate_spots other) outside

-- the path blocks of a path are given at its place, and each candidate of one of them can be compared with it, whatever its items
pub record IsComparable (catalog : Catalog) (graph : Graph) (candidates : List (List PathBlock)) (path : CheckedPath) (part : PathBlock) : Type 0 where
  pub there : part.path < length candidates
  pub own : slice_index_or candidates part.path [] ≡ path_blocks graph part.path path
  pub posed : (items : List ℕ) → length part.elements ≤ length items → (other : PathBlock) → IsIn other (filter (is_candidate part) (path_blocks graph part.path path))
      → IsPosed catalog graph path (spots_along Vertex part.elements items) other

-- a SELECT with more conjuncts
abbrev pub with_conjuncts : Select → List Conjunct → Select
with_conjuncts select more = record { columns = select.columns; from = select.from; conjuncts = select.conjuncts ++ more }
