-- One path under ALL SHORTEST: its NOT EXISTS are True exactly where the selector keeps its rows.
use Rattle.std.proofs.Common.{◌≡◌, ℕ, ◌-◌, ◌<◌, ◌≤◌, ◌^◌, Bool, true, not, ◌&&◌, List, [], ◌∷◌, map, filter, length, slice_index_or, None, Some, refl, sym, ap, ap₂, subst, ◌∙◌}
use Rattle.std.proofs.Common.{inl, inr, arith}
use Rattle.std.specs.List.{list_any, list_all}
use Rattle.std.proofs.lemmas.List.{get_or-map, length-map}
use Rattle.std.proofs.lemmas.Bool.{eqb-true}
use Rattle.std.proofs.lemmas.Bool.Decides.{Decides-ltb}
use Rattle.pgq_base.specs.Instances.{RowValues, TableRows, InstanceRows}
use Rattle.multisets.specs.Bags.{IsIn}
use Rattle.graph_ast.specs.declared.catalog.Catalog.{Catalog}
use Rattle.graph_ast.specs.declared.catalog.Graph.{Graph}
use Rattle.graph_ast.specs.declared.checked.CheckedPath.{CheckedPath}
use Rattle.graph_ast.specs.declared.checked.CheckedQuery.{CheckedQuery}
use Rattle.graph_ast.specs.declared.blocks.PathBlock.{PathBlock}
use Rattle.graph_ast.specs.Lookups.{vertex_element}
use Rattle.graph_ast.specs.Catalogs.{IsValidGraph, IsValidCatalog}
use Rattle.graph_ast.specs.Fits.{Fits}
use Rattle.graph_meaning.specs.Lists.{numbers_below}
use Rattle.graph_meaning.specs.View.{rows_of}
use Rattle.graph_meaning.specs.Bindings.{bindings_in_mode, is_selected}
use Rattle.graph_meaning.specs.Blocks.{path_blocks}
use Rattle.graph_meaning.specs.Weights.{is_candidate}
use Rattle.graph_meaning.specs.Rows.{tables_of, tuples, binding_with}
use Rattle.graph_meaning.proofs.Members.{both_parts, from_filter, in_combinations, from_combinations, ArePicks}
use Rattle.sql_algebra.specs.declared.tree.Conjunct.TheVariants.{NotExists}
use Rattle.sql_algebra.specs.Tuples.{Tuple, leaf_value}
use Rattle.sql_algebra.specs.Meaning.{conjunct_holds}
use Rattle.path_lowering.specs.declared.spots.Kind.TheVariants.{Vertex}
use Rattle.path_lowering.specs.declared.spots.Spot.{Spot}
use Rattle.path_lowering.specs.Spots.{element_at, row_at, spots_along}
use Rattle.path_lowering.specs.Shown.{Shows}
use Rattle.path_lowering.specs.Blocks.{Laid}
use Rattle.path_lowering.specs.Selects.{passes_block}
use Rattle.graph_meaning.specs.Choices.{singletons_of}
use Rattle.path_lowering.specs.Lowered.{Combining, IsCombining, IsLowerable}
use Rattle.path_lowering.specs.Shortest.{spot_at, last_place, candidate_select, candidate_laid, has_ends_of}
use Rattle.path_lowering.proofs.BlockLemmas.{any-each, all-each}
use Rattle.path_lowering.proofs.AnswerLemmas.{spots_many, tables_are, picks_many, tables_many}
use Rattle.path_lowering.proofs.LaidLemmas.{Belongs, belongs, some_number}
use Rattle.path_lowering.proofs.ShortestLemmas.{candidate_means}
use Rattle.path_lowering.proofs.CandidateLaid.{candidate_is_laid, many}
use Rattle.path_lowering.proofs.CandidateRows.{tables_same, passes_same}
use Rattle.path_lowering.proofs.SelectorLemmas.{reach, shortest_is}
use Rattle.path_lowering.proofs.EndLemmas.{first_element, last_element, ends_meet}

picks_at : (table_of : Spot → TableRows) (rows : List RowValues) (spots : List Spot) → ((spot : Spot) → IsIn spot spots → IsIn (row_at rows spot) (table_of spot))
    → ArePicks (map (row_at rows) spots) (map table_of spots)
picks_at table_of rows [] h = tt
picks_at table_of rows (s ∷ ss) h = (h s (inl refl), picks_at table_of rows ss (λ spot k. h spot (inr k)))

module _ (catalog : Catalog) (graph : Graph) (instance : InstanceRows) (sound : IsValidCatalog catalog) (graph_in : IsIn graph catalog.graphs) (fits : Fits catalog instance)
    (valid : IsValidGraph catalog graph)
    (query : CheckedQuery) (ok : IsLowerable graph query) (combined : Combining) (combines : IsCombining combined) (path : CheckedPath) (among : IsIn path query.paths) (place : ℕ)
    (part : PathBlock) (part_in : IsIn part (path_blocks graph place path)) (few : length part.elements < 2 ^ 32) (items : List ℕ) (enough : length part.elements ≤ length items)
    (outer : Tuple) (outer_rows : List RowValues) (shown : Shows catalog graph instance 65 (leaf_value catalog outer) outer_rows (spots_along Vertex part.elements items)) where
  abbrev outside : List Spot
  outside = spots_along Vertex part.elements items

  abbrev rows : List RowValues
  rows = map (row_at outer_rows) outside

  here : Belongs catalog graph valid instance fits query ok path part
  here = belongs catalog graph valid instance fits query ok path place part among part_in

  outside_many : length outside ≡ length part.elements
  outside_many = spots_many Vertex part.elements items enough

  picks : ArePicks rows (tables_of graph instance part.elements)
  picks =
      subst (ArePicks rows) (tables_are graph instance part.elements items here.fitting.numbers enough)
      (picks_at (λ spot. rows_of instance (element_at graph spot)) outer_rows outside shown.members)

  rows_in : IsIn rows (tuples graph instance part.elements)
  rows_in = in_combinations rows (tables_of graph instance part.elements) picks

  rows_many : length rows ≡ length part.elements
  rows_many = length-map outside (row_at outer_rows) ∙ outside_many

  some_outside : 1 ≤ length outside
  some_outside = subst (λ n. 1 ≤ n) (sym outside_many) (some_number catalog graph valid instance fits query ok part.elements here.fitting.numbers)

  abbrev no_spot : Spot
  no_spot = record { kind = Vertex; element = 0; item = 0 }

  first_row : row_at outer_rows (spot_at outside 0) ≡ slice_index_or rows 0 []
  first_row = sym (get_or-map (row_at outer_rows) outside 0 no_spot [] some_outside)

  last_row : row_at outer_rows (spot_at outside (last_place outside)) ≡ slice_index_or rows (length rows - 1) []
  last_row =
      sym (get_or-map (row_at outer_rows) outside (last_place outside) no_spot [] (omega (arith, some_outside)))
      ∙ ap (λ n. slice_index_or rows (n - 1) []) (outside_many ∙ sym rows_many)

  module _ (other : PathBlock) (h : IsIn other (filter (is_candidate part) (path_blocks graph place path))) where
    kept : IsIn other (path_blocks graph place path) × (is_candidate part other ≡ true)
    kept = from_filter (is_candidate part) other (path_blocks graph place path) h

    known : Belongs catalog graph valid instance fits query ok path other
    known = belongs catalog graph valid instance fits query ok path place other among kept.0

    abbrev own : Laid
    own = candidate_laid catalog graph combined path other

    fewer : length other.elements < length part.elements
    fewer = (Decides-ltb (length other.elements) (length part.elements)).0 (both_parts _ _ kept.1).0

    few_other : length other.elements < 2 ^ 32
    few_other = omega (arith, fewer, few)

    own_enough : length other.elements ≤ length (numbers_below (length other.elements))
    own_enough = let n = many catalog graph valid instance fits query ok combined combines path among place other kept.0 few_other in omega (arith, n)

    own_many : length own.spots ≡ length other.elements
    own_many = spots_many Vertex other.elements (numbers_below (length other.elements)) own_enough

    some : 1 ≤ length own.spots
    some = subst (λ n. 1 ≤ n) (sym own_many) (some_number catalog graph valid instance fits query ok other.elements known.fitting.numbers)

    first : slice_index_or other.elements 0 0 ≡ slice_index_or part.elements 0 0
    first = eqb-true _ _ (both_parts _ _ (both_parts _ _ kept.1).1).0

    last : slice_index_or other.elements (length other.elements - 1) 0 ≡ slice_index_or part.elements (length part.elements - 1) 0
    last = eqb-true _ _ (both_parts _ _ (both_parts _ _ kept.1).1).1

    first_same : element_at graph (spot_at outside 0) ≡ element_at graph (spot_at own.spots 0)
    first_same =
        first_element graph part.elements items here.fitting.numbers enough ∙ ap (vertex_element graph) (sym first)
        ∙ sym (first_element graph other.elements (numbers_below (length other.elements)) known.fitting.numbers own_enough)

    last_same : element_at graph (spot_at outside (last_place outside)) ≡ element_at graph (spot_at own.spots (last_place own.spots))
    last_same =
        ap (λ n. element_at graph (spot_at outside (n - 1))) outside_many
        ∙ last_element graph part.elements items here.fitting.numbers enough ∙ ap (vertex_element graph) (sym last)
        ∙ sym (last_element graph other.elements (numbers_below (length other.elements)) known.fitting.numbers own_enough)
        ∙ ap (λ n. element_at graph (spot_at own.spots (n - 1))) (sym own_many)

    -- the candidate's rows pass and have the ends
    abbrev met : List RowValues → Bool
    met mine =
        passes_block graph instance (singletons_of path) (own ∷ []) None mine
        && has_ends_of graph own.spots (row_at outer_rows (spot_at outside 0)) (row_at outer_rows (spot_at outside (last_place outside))) mine

    candidate_row : (mine : List RowValues) → IsIn mine (tuples graph instance other.elements)
        → met mine
        ≡ reach catalog graph valid instance fits path place part part_in rows rows_in other mine
    candidate_row mine k =
        let mine_many : length mine ≡ length other.elements =
        picks_many graph instance mine (tables_of graph instance other.elements) (from_combinations mine (tables_of graph instance other.elements) k)
        ∙ tables_many graph instance other.elements known.fitting.numbers in
        ap₂ (λ a b. a && b) (passes_same catalog graph instance combined path other known.fitting known.is_part mine k)
        (ap₂ (λ r s. has_ends_of graph own.spots r s mine) first_row last_row
        ∙ sym (ends_meet graph other.elements part.elements (numbers_below (length other.elements)) mine rows known.fitting.numbers here.fitting.numbers mine_many rows_many
        own_enough first last))

    one_candidate : conjunct_holds catalog instance (NotExists (candidate_select catalog graph own outside)) outer
        ≡ not (list_any (reach catalog graph valid instance fits path place part part_in rows rows_in other) (tuples graph instance other.elements))
    one_candidate =
        candidate_means catalog graph instance sound graph_in fits outer outer_rows outside shown own
        (candidate_is_laid catalog graph valid instance fits query ok combined combines path among place other kept.0 few_other) some some_outside first_same last_same
        ∙ ap (λ l. not (list_any met l)) (tables_same catalog graph instance combined path other known.fitting known.is_part)
        ∙ ap not (any-each met (reach catalog graph valid instance fits path place part part_in rows rows_in other) (tuples graph instance other.elements) candidate_row)

  -- all of them
  pub path_shortest : list_all (λ other. conjunct_holds catalog instance (NotExists (candidate_select catalog graph (candidate_laid catalog graph combined path other) outside))
      outer) (filter (is_candidate part) (path_blocks graph place path))
      ≡ is_selected (Some 1) (bindings_in_mode graph instance path) (binding_with graph part rows)
  path_shortest =
      all-each _ _ (filter (is_candidate part) (path_blocks graph place path)) one_candidate
      ∙ sym (shortest_is catalog graph valid instance fits path place part part_in rows rows_in)
