-- The tuples of a candidate's SELECT stand for the bindings of its path block.
use Rattle.std.proofs.Common.{◌≡◌, ℕ, zero, suc, ◌<◌, ◌≤◌, ◌^◌, true, ◌&&◌, List, [], ◌∷◌, ◌++◌, map, filter, flat_map, length, take, refl, sym, ap, subst, ◌∙◌, arith, None}
use Rattle.std.proofs.lemmas.List.FromFn.{length-range_with_len}
use Rattle.pgq_base.specs.Instances.{RowValues, InstanceRows}
use Rattle.multisets.specs.Bags.{IsIn, IsWithoutRepeats}
use Rattle.multisets.proofs.Kept.{permuted_in, filter_without}
use Rattle.std.proofs.lemmas.List.Sorted.{IsPermutation-sym}
use Rattle.graph_ast.specs.declared.catalog.Catalog.{Catalog}
use Rattle.graph_ast.specs.declared.catalog.Graph.{Graph}
use Rattle.graph_ast.specs.declared.checked.CheckedPath.{CheckedPath}
use Rattle.graph_ast.specs.declared.checked.CheckedQuery.{CheckedQuery}
use Rattle.graph_ast.specs.declared.blocks.PathBlock.{PathBlock}
use Rattle.graph_ast.specs.Catalogs.{IsValidGraph}
use Rattle.graph_ast.specs.Lookups.{graph_at}
use Rattle.graph_meaning.specs.Bindings.{Binding, bindings_in_mode}
use Rattle.graph_meaning.specs.Blocks.{path_blocks}
use Rattle.graph_meaning.specs.Choices.{singletons_of}
use Rattle.graph_meaning.specs.Laws.{IsFitting, LiesIn}
use Rattle.graph_meaning.specs.Lists.{numbers_below}
use Rattle.graph_meaning.specs.Rows.{tuples as row_tuples, rows_along, binding_with, mode_passes, mode_bindings_by_rows}
use Rattle.graph_meaning.proofs.Members.{in_map, in_flat, from_map, from_flat, from_filter}
use Rattle.graph_meaning.proofs.AnswerRows.{same_in_mode}
use Rattle.graph_meaning.proofs.BlockLemmas.{block_is}
use Rattle.graph_meaning.proofs.BlockRows.{tuples_once, block_numbers, rows_lie}
use Rattle.sql_algebra.specs.declared.tree.Select.{Select}
use Rattle.sql_algebra.specs.Tuples.{Tuple}
use Rattle.path_lowering.specs.declared.spots.Kind.TheVariants.{Vertex}
use Rattle.path_lowering.specs.declared.spots.Spot.{Spot}
use Rattle.path_lowering.specs.Spots.{row_at}
use Rattle.path_lowering.specs.Apart.{apart}
use Rattle.path_lowering.specs.Blocks.{Laid, laid_spots}
use Rattle.path_lowering.specs.Lowered.{IsLowerable}
use Rattle.path_lowering.specs.Selects.{IsBlockLaid, select_besides}
use Rattle.path_lowering.specs.Shortest.{one_column, candidate_laid}
use Rattle.path_lowering.proofs.ApartLemmas.{apart_combines}
use Rattle.path_lowering.proofs.CandidateLaid.{candidate_is_laid}
use Rattle.path_lowering.proofs.CandidateRows.{tables_same, passes_same}
use Rattle.path_lowering.proofs.LaidLemmas.{Belongs, belongs, items_along}
use Rattle.path_lowering.proofs.Lists.{append-nil, filter-each, map-again, map-each}
use Rattle.path_lowering.proofs.Theorems.{block_kept}
use Rattle.path_lowering.proofs.Truths.{and_kept}
use Rattle.shortest_lowering.specs.Comparable.{candidate_spots}
use Rattle.shortest_lowering.specs.NoShorter.{true_tuples}
use Rattle.shortest_lowering.specs.PathCandidates.{path_select}
use Rattle.shortest_lowering.specs.StandsFor.{row_of_item, IsPairOf, StandForPairs}
use Rattle.shortest_lowering.proofs.BindingTuples.{true_tuples_are}
use Rattle.shortest_lowering.proofs.OneToOne.{one_to_one}
use Rattle.shortest_lowering.proofs.ShorterSteps.{nothing_besides}
use Rattle.shortest_lowering.proofs.StandingLemmas.{items_enough}

all_taken : {X : Type 0} (n : ℕ) (xs : List X) → length xs ≡ n → take n xs ≡ xs
all_taken zero [] size = refl
all_taken zero (x ∷ xs) size = absurd (omega (arith, size))
all_taken (suc n) [] size = refl
all_taken (suc n) (x ∷ xs) size = ap (λ l. x ∷ l) (all_taken n xs (omega (arith, size)))

-- the places of a candidate have the items 0, 1 and so on
pub spot_items : (part : PathBlock) → map (λ spot. spot.item) (candidate_spots part) ≡ numbers_below (length part.elements)
spot_items part =
    items_along Vertex part.elements (numbers_below (length part.elements)) (items_enough (length part.elements))
    ∙ all_taken (length part.elements) (numbers_below (length part.elements)) (length-range_with_len 0 (length part.elements))

module _ (catalog : Catalog) (query : CheckedQuery) (instance : InstanceRows) (fitting : IsFitting catalog (graph_at catalog query.graph) instance)
    (ok : IsLowerable (graph_at catalog query.graph) query) (path : CheckedPath) (among : IsIn path query.paths) (place : ℕ) (part : PathBlock)
    (there : IsIn part (path_blocks (graph_at catalog query.graph) place path)) (few : length part.elements < 2 ^ 32) where
  abbrev graph : Graph
  graph = graph_at catalog query.graph

  valid : IsValidGraph catalog graph
  valid = fitting.valid.graphs graph fitting.there

  abbrev own : Laid
  own = candidate_laid catalog graph apart path part

  abbrev select : Select
  select = path_select catalog graph path part

  abbrev those : List Tuple
  those = true_tuples catalog instance select

  abbrev passing : List (List RowValues)
  passing = filter (mode_passes graph instance path part) (row_tuples graph instance part.elements)

  abbrev rows_of_places : Tuple → List RowValues
  rows_of_places tuple = map (row_of_item tuple) (numbers_below (length part.elements))

  abbrev seen : Tuple → List RowValues
  seen tuple = map (row_at (map (λ bound. bound.row) tuple)) (laid_spots (own ∷ []))

  laid : IsBlockLaid catalog graph 83 (singletons_of path) (own ∷ []) None (one_column ∷ [])
  laid = candidate_is_laid catalog graph valid instance fitting.fits query ok apart apart_combines path among place part there few

  known : Belongs catalog graph valid instance fitting.fits query ok path part
  known = belongs catalog graph valid instance fitting.fits query ok path place part among there

  plain : select ≡ select_besides catalog graph 83 (singletons_of path) (own ∷ []) None (one_column ∷ []) [] []
  plain =
      ap (λ conjuncts. record { columns = select.columns; from = select.from; conjuncts = conjuncts }) (sym (append-nil select.conjuncts))
      ∙ nothing_besides catalog graph 83 (singletons_of path) (own ∷ []) None (one_column ∷ []) []

  -- the rows at the places
  all_seen : map seen those ≡ passing
  all_seen =
      ap (λ s. map seen (true_tuples catalog instance s)) plain
      ∙ ap (map seen) (true_tuples_are catalog instance (select_besides catalog graph 83 (singletons_of path) (own ∷ []) None (one_column ∷ []) [] []))
      ∙ block_kept catalog graph instance 83 (singletons_of path) (own ∷ []) None (one_column ∷ []) fitting.valid fitting.there fitting.fits laid [] []
      (λ rows. true) [] (λ rows tuple shows under. refl)
      ∙ ap (filter _) (tables_same catalog graph instance apart path part known.fitting known.is_part)
      ∙ filter-each _ (mode_passes graph instance path part) (row_tuples graph instance part.elements)
      (λ rows h. and_kept _ ∙ passes_same catalog graph instance apart path part known.fitting known.is_part rows h)

  sees : (tuple : Tuple) → rows_of_places tuple ≡ seen tuple
  sees tuple =
      ap (map (row_of_item tuple)) (sym (spot_items part))
      ∙ map-again (row_of_item tuple) (λ spot. spot.item) (candidate_spots part)
      ∙ ap (map (λ (spot : Spot). row_of_item tuple spot.item)) (sym (append-nil (candidate_spots part)))

  finds : map rows_of_places those ≡ passing
  finds = map-each rows_of_places seen those (λ tuple h. sees tuple) ∙ all_seen

  once : IsWithoutRepeats passing
  once =
      filter_without (mode_passes graph instance path part) (row_tuples graph instance part.elements)
      (tuples_once catalog graph valid instance fitting.fits part.elements (block_numbers catalog graph valid instance fitting.fits path place part there))

  bound : (rows : List RowValues) → IsIn rows passing
      → IsPairOf graph instance path part (binding_with graph part rows) × (rows_along graph instance (binding_with graph part rows).walk ≡ rows)
  bound rows h =
      let binding = binding_with graph part rows in
      let of = from_filter (mode_passes graph instance path part) rows (row_tuples graph instance part.elements) h in
      let lies = rows_lie catalog graph valid instance fitting.fits path place part there rows of.0 in
      let made : IsIn binding (flat_map (mode_bindings_by_rows graph instance path) (path_blocks graph place path)) =
      in_flat (mode_bindings_by_rows graph instance path) binding part (path_blocks graph place path) there (in_map (binding_with graph part) rows passing h) in
      let pair : IsPairOf graph instance path part binding = record {
        there = permuted_in _ _ (IsPermutation-sym _ _ (same_in_mode catalog graph valid instance fitting.fits path place)) binding made;
        lies = lies.0;
      } in
      (pair, lies.1)

  found : (binding : Binding) → IsPairOf graph instance path part binding → (rows : List RowValues) × IsIn rows passing × (binding_with graph part rows ≡ binding)
  found binding is =
      let made = permuted_in (bindings_in_mode graph instance path) (flat_map (mode_bindings_by_rows graph instance path) (path_blocks graph place path))
      (same_in_mode catalog graph valid instance fitting.fits path place) binding is.there in
      let of = from_flat (mode_bindings_by_rows graph instance path) binding (path_blocks graph place path) made in
      let rows = from_map (binding_with graph of.0) binding (filter (mode_passes graph instance path of.0) (row_tuples graph instance of.0.elements)) of.2 in
      let kept = from_filter (mode_passes graph instance path of.0) rows.0 (row_tuples graph instance of.0.elements) rows.1 in
      let lies : LiesIn binding of.0 =
      subst (λ (b : Binding). LiesIn b of.0) rows.2 (rows_lie catalog graph valid instance fitting.fits path place of.0 of.1 rows.0 kept.0).0 in
      let same : of.0 ≡ part = block_is graph path place binding of.0 of.1 lies ∙ sym (block_is graph path place binding part there is.lies) in
      subst (λ (p : PathBlock). (r : List RowValues) × IsIn r (filter (mode_passes graph instance path p) (row_tuples graph instance p.elements))
      × (binding_with graph p r ≡ binding)) same rows

  pub pairs_stand : StandForPairs catalog instance graph path part select
  pairs_stand =
      one_to_one (IsPairOf graph instance path part) rows_of_places (binding_with graph part) (λ binding. rows_along graph instance binding.walk) those passing
      finds once bound found
