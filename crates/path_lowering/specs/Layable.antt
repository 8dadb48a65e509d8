-- What is asked of a query that is lowered, of a path and its path block that are laid along places, and of a graph block.
use Rattle.std.specs.Prelude.{ℕ, ◌≡◌, ◌≤◌, ◌<◌, ◌^◌, List, length, flat_map}
use Rattle.std.specs.List.{AllZip}
use Rattle.multisets.specs.Bags.{IsIn}
use Rattle.graph_ast.specs.declared.catalog.Catalog.{Catalog}
use Rattle.graph_ast.specs.declared.catalog.Graph.{Graph}
use Rattle.graph_ast.specs.declared.checked.CheckedPath.{CheckedPath}
use Rattle.graph_ast.specs.declared.checked.CheckedQuery.{CheckedQuery}
use Rattle.graph_ast.specs.declared.blocks.Alternative.{Alternative}
use Rattle.graph_ast.specs.declared.blocks.PathBlock.{PathBlock}
use Rattle.graph_ast.specs.declared.blocks.Block.{Block}
use Rattle.graph_ast.specs.Catalogs.{IsValidCatalog, IsValidGraph}
use Rattle.graph_ast.specs.Lookups.{graph_at}
use Rattle.graph_meaning.specs.Lists.{tagged}
use Rattle.graph_meaning.specs.Choices.{PlacedPiece, choices, expansion_of}
use Rattle.graph_meaning.specs.Answers.{query_singletons}
use Rattle.path_lowering.specs.declared.spots.Kind.TheVariants.{Vertex}
use Rattle.path_lowering.specs.declared.spots.Spot.{Spot}
use Rattle.path_lowering.specs.Spots.{element_at, spots_along}
use Rattle.path_lowering.specs.Shown.{count_of_kind, HasKey}
use Rattle.path_lowering.specs.Shortest.{spot_at, last_place}
use Rattle.path_lowering.specs.Blocks.{IsPart, laid_tags, laid_spots, plan_of, sources_of}
use Rattle.path_lowering.specs.Lowered.{IsLowerable, laid_block}
use Rattle.path_lowering.specs.Apart.{apart}
use Rattle.path_lowering.specs.Unrolled.{IsPieceAt}

-- a choice of a path may be said of some places
pub record IsChoiceAt (catalog : Catalog) (graph : Graph) (path : CheckedPath) (spots : List Spot) (choice : Alternative) : Type 0 where
  pub operand : choice.operand < length path.operands
  pub room : (expansion_of path choice).edges < 2 ^ 63
  pub pieces : (piece : PlacedPiece) → IsIn piece (expansion_of path choice).pieces → IsPieceAt catalog graph spots piece

-- a path block of a path, whose elements are there
pub record IsLayable (graph : Graph) (path : CheckedPath) (part : PathBlock) : Type 0 where
  pub is_part : IsPart graph path part
  pub choices : (choice : Alternative) → IsIn choice part.alternatives → IsIn choice (choices path)
  pub tags : length part.tags ≡ length part.elements
  pub few : length part.elements < 2 ^ 32
  pub elements : (items : List ℕ) → length part.elements ≤ length items → (spot : Spot) → IsIn spot (spots_along Vertex part.elements items)
      → spot.element < count_of_kind graph spot.kind

-- a graph block has not too many places, and its plan has an item for each
pub record IsPlannable (query : CheckedQuery) (block : Block) : Type 0 where
  pub few : length (flat_map (λ part. part.tags) block.paths) < 2 ^ 32
  pub many : length (plan_of (query_singletons query) (flat_map (λ part. part.tags) block.paths)) ≡ length (flat_map (λ part. part.elements) block.paths)

-- a graph block whose path blocks can be laid: it has some places, not too many, and those of one singleton have one element
pub record IsReady (catalog : Catalog) (graph : Graph) (prefix : ℕ) (query : CheckedQuery) (block : Block) : Type 0 where
  pub valid : IsValidGraph catalog graph
  pub paths : AllZip (IsLayable graph) query.paths block.paths
  pub many : length (plan_of (query_singletons query) (flat_map (λ part. part.tags) block.paths)) ≡ length (flat_map (λ part. part.elements) block.paths)
  pub there : (spot : Spot) → IsIn spot (laid_spots (laid_block catalog graph prefix apart query block)) → spot.element < count_of_kind graph spot.kind
  pub sources : 1 ≤ length (sources_of catalog graph prefix (laid_spots (laid_block catalog graph prefix apart query block)))
  pub few : length (flat_map (λ part. part.tags) block.paths) < 2 ^ 32
  pub alike : (name : List ℕ) (a b : Spot) → IsIn name (query_singletons query)
      → IsIn a (tagged name (laid_tags (laid_block catalog graph prefix apart query block)) (laid_spots (laid_block catalog graph prefix apart query block)))
      → IsIn b (tagged name (laid_tags (laid_block catalog graph prefix apart query block)) (laid_spots (laid_block catalog graph prefix apart query block)))
      → element_at graph a ≡ element_at graph b

-- a query that can be lowered, over a graph of a valid catalog
pub record IsServed (catalog : Catalog) (query : CheckedQuery) : Type 0 where
  pub valid : IsValidCatalog catalog
  pub graph : query.graph < length catalog.graphs
  pub lowerable : IsLowerable (graph_at catalog query.graph) query

-- two paths, the one in a SELECT of its own, whose first places have one element, and so have the last ones
pub record AreEnds (catalog : Catalog) (graph : Graph) (own outside : List Spot) : Type 0 where
  pub some : 1 ≤ length own
  pub some_outside : 1 ≤ length outside
  pub first : HasKey catalog graph (spot_at own 0)
  pub first_outside : HasKey catalog graph (spot_at outside 0)
  pub same_first : element_at graph (spot_at own 0) ≡ element_at graph (spot_at outside 0)
  pub last : HasKey catalog graph (spot_at own (last_place own))
  pub last_outside : HasKey catalog graph (spot_at outside (last_place outside))
  pub same_last : element_at graph (spot_at own (last_place own)) ≡ element_at graph (spot_at outside (last_place outside))
