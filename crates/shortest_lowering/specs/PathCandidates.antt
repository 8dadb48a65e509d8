-- The candidate of a path block: the SELECT of its rows by itself, its length, and its ends (this project's own).
use Rattle.std.specs.Prelude.{◌≡◌, ℕ, ◌-◌, ◌/◌, ◌≤◌, List, [], ◌∷◌, length, map, slice_index_or, None}
use Rattle.graph_ast.specs.declared.catalog.Catalog.{Catalog}
use Rattle.graph_ast.specs.declared.catalog.Graph.{Graph}
use Rattle.graph_ast.specs.declared.checked.CheckedPath.{CheckedPath}
use Rattle.graph_ast.specs.declared.blocks.PathBlock.{PathBlock}
use Rattle.graph_meaning.specs.Choices.{singletons_of}
use Rattle.sql_algebra.specs.declared.tree.Candidate.{Candidate}
use Rattle.sql_algebra.specs.declared.tree.ColumnLeaf.{ColumnLeaf}
use Rattle.sql_algebra.specs.declared.tree.Select.{Select}
use Rattle.sql_algebra.specs.declared.tree.SqlQuery.{SqlQuery}
use Rattle.path_lowering.specs.declared.spots.Spot.{Spot}
use Rattle.path_lowering.specs.Apart.{apart}
use Rattle.path_lowering.specs.Emitted.{leaf_of}
use Rattle.path_lowering.specs.Selects.{select_for}
use Rattle.path_lowering.specs.Shortest.{spot_at, last_place, one_column, candidate_laid}
use Rattle.path_lowering.specs.Spots.{element_at}
use Rattle.shortest_lowering.specs.Comparable.{candidate_spots, IsStanding}

module _ (catalog : Catalog) (graph : Graph) where
  -- the column 1 AS C, an item under the letter S for each place, and the path's conditions
  abbrev pub path_select : CheckedPath → PathBlock → Select
  path_select path part = select_for catalog graph 83 (singletons_of path) (candidate_laid catalog graph apart path part ∷ []) None (one_column ∷ [])

  -- the leaves of the key at a place
  abbrev pub key_at : Spot → List ColumnLeaf
  key_at spot = map (leaf_of catalog graph 83 spot) (element_at graph spot).key

  abbrev pub path_candidate : CheckedPath → PathBlock → Candidate
  path_candidate path part = record {
    select = path_select path part;
    length = length part.elements / 2;
    first = slice_index_or part.elements 0 0;
    last = slice_index_or part.elements (length part.elements - 1) 0;
    first_key = key_at (spot_at (candidate_spots part) 0);
    last_key = key_at (spot_at (candidate_spots part) (last_place (candidate_spots part)));
  }

  -- a path block can be laid along its places, of which there are some
  pub record IsByItself (path : CheckedPath) (part : PathBlock) : Type 0 where
    pub standing : IsStanding catalog graph path part
    pub some : 1 ≤ length part.elements

-- the query of one SELECT
abbrev pub query_of : Select → SqlQuery
query_of select = record { selects = select ∷ [] }
