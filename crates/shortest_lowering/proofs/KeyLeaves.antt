-- The ends of a path block by itself, and its candidate from its parts.
use Rattle.std.proofs.Common.{◌≡◌, ℕ, ◌-◌, ◌/◌, ◌≤◌, ◌<◌, List, length, slice_index_or, sym, ap, subst, ◌∙◌, arith}
use Rattle.graph_ast.specs.declared.catalog.Catalog.{Catalog}
use Rattle.graph_ast.specs.declared.catalog.Graph.{Graph}
use Rattle.graph_ast.specs.declared.checked.CheckedPath.{CheckedPath}
use Rattle.graph_ast.specs.declared.blocks.PathBlock.{PathBlock}
use Rattle.graph_meaning.specs.Lists.{numbers_below}
use Rattle.sql_algebra.specs.declared.tree.ColumnLeaf.{ColumnLeaf}
use Rattle.sql_algebra.specs.declared.tree.Select.{Select}
use Rattle.path_lowering.specs.declared.spots.Kind.TheVariants.{Vertex}
use Rattle.path_lowering.specs.declared.spots.Spot.{Spot}
use Rattle.path_lowering.specs.Shortest.{spot_at, last_place}
use Rattle.path_lowering.specs.Shown.{HasKey}
use Rattle.path_lowering.proofs.AnswerLemmas.{spots_many}
use Rattle.path_lowering.proofs.Facts.{in_at}
use Rattle.shortest_lowering.specs.Comparable.{candidate_spots}
use Rattle.shortest_lowering.specs.PathCandidates.{IsByItself, path_select, key_at, path_candidate}
use Rattle.shortest_lowering.proofs.StandingLemmas.{items_enough, key_there}

abbrev no_spot : Spot
no_spot = record { kind = Vertex; element = 0; item = 0 }

module _ (catalog : Catalog) (graph : Graph) (path : CheckedPath) (part : PathBlock) (ok : IsByItself catalog graph path part)
    (spots : List Spot) (is : spots ≡ candidate_spots part) where
  places_many : length spots ≡ length part.elements
  places_many = ap length is ∙ spots_many Vertex part.elements (numbers_below (length part.elements)) (items_enough (length part.elements))

  some_place : 1 ≤ length spots
  some_place = subst (λ n. 1 ≤ n) (sym places_many) ok.some

  -- the element at each place has a key
  key_of_place : (place : ℕ) → place < length spots → HasKey catalog graph (spot_at spots place)
  key_of_place place h = key_there catalog graph path part ok.standing spots is (spot_at spots place) (in_at spots place no_spot h)

  pub first_has_key : HasKey catalog graph (spot_at spots 0)
  first_has_key = let some = some_place in key_of_place 0 (omega (arith, some))

  pub last_has_key : HasKey catalog graph (spot_at spots (last_place spots))
  last_has_key = let some = some_place in key_of_place (last_place spots) (omega (arith, some))

  -- the candidate, from its SELECT, its places and their keys
  pub candidate_made : (elements : List ℕ) (select : Select) (first_key last_key : List ColumnLeaf) → elements ≡ part.elements → select ≡ path_select catalog graph path part
      → first_key ≡ key_at catalog graph (spot_at spots 0) → last_key ≡ key_at catalog graph (spot_at spots (last_place spots))
      → record {
        select = select;
        length = length elements / 2;
        first = slice_index_or elements 0 0;
        last = slice_index_or elements (length elements - 1) 0;
        first_key = first_key;
        last_key = last_key;
      } ≡ path_candidate catalog graph path part
  candidate_made elements select first_key last_key e s f l =
      let first : first_key ≡ key_at catalog graph (spot_at (candidate_spots part) 0) = f ∙ ap (λ (p : List Spot). key_at catalog graph (spot_at p 0)) is in
      let last : last_key ≡ key_at catalog graph (spot_at (candidate_spots part) (last_place (candidate_spots part))) =
      l ∙ ap (λ (p : List Spot). key_at catalog graph (spot_at p (last_place p))) is in
      cc
