-- The tuples of a block's SELECT stand for the block's graph bindings.
use Rattle.std.proofs.Common.{◌≡◌, ℕ, ◌&&◌, List, [], ◌∷◌, ◌++◌, map, filter, flat_map, length, take, drop, slice_index_or, refl, sym, ap, ap₂, subst, ◌∙◌, inl, inr}
use Rattle.std.specs.List.{AllZip, enumerate_from, list_all}
use Rattle.std.proofs.lemmas.List.Sorted.{IsPermutation-sym}
use Rattle.std.proofs.lemmas.List.{take-map, drop-map, map-id}
use Rattle.std.proofs.lemmas.List.Folds.{list_all-map}
use Rattle.pgq_base.specs.Instances.{RowValues, InstanceRows}
use Rattle.multisets.specs.Bags.{IsIn, IsWithoutRepeats}
use Rattle.multisets.proofs.Kept.{permuted_in, filter_without}
use Rattle.graph_ast.specs.declared.catalog.Catalog.{Catalog}
use Rattle.graph_ast.specs.declared.catalog.Graph.{Graph}
use Rattle.graph_ast.specs.declared.checked.CheckedQuery.{CheckedQuery}
use Rattle.graph_ast.specs.declared.blocks.PathBlock.{PathBlock}
use Rattle.graph_ast.specs.declared.blocks.Block.{Block}
use Rattle.graph_ast.specs.Catalogs.{IsValidGraph}
use Rattle.graph_ast.specs.Lookups.{graph_at}
use Rattle.graph_meaning.specs.Answers.{GraphBinding, graph_bindings, query_singletons}
use Rattle.graph_meaning.specs.Blocks.{blocks}
use Rattle.graph_meaning.specs.Laws.{IsFitting, LieIn}
use Rattle.graph_meaning.specs.Lists.{combinations}
use Rattle.graph_meaning.specs.Rows.{tuples as row_tuples, bindings_with, rows_along, rows_pass, block_tuples, graph_bindings_by_rows}
use Rattle.graph_meaning.proofs.Members.{in_map, in_flat, from_map, from_flat, from_filter, from_combinations, combinations_once}
use Rattle.graph_meaning.proofs.GraphLemmas.{only_block}
use Rattle.graph_meaning.proofs.GraphRows.{all_tuples_once, block_picks, rows_bound, same_graph_bindings}
use Rattle.sql_algebra.specs.declared.tree.Conjunct.{Conjunct}
use Rattle.sql_algebra.specs.declared.tree.Select.{Select}
use Rattle.sql_algebra.specs.Tuples.{Tuple, tuples, tuples_under, holds, all_members}
use Rattle.sql_algebra.specs.Meaning.{conjunct_holds}
use Rattle.path_lowering.specs.declared.plans.SelectPlan.{SelectPlan}
use Rattle.path_lowering.specs.declared.spots.Spot.{Spot}
use Rattle.path_lowering.specs.Spots.{row_at}
use Rattle.path_lowering.specs.Blocks.{Laid, laid_spots, plan_of}
use Rattle.path_lowering.specs.Planning.{items_by_path, plan_of_block}
use Rattle.path_lowering.specs.Lowered.{Combining, IsCombining, IsLowerable, laid_block}
use Rattle.path_lowering.specs.Selects.{IsBlockLaid}
use Rattle.path_lowering.proofs.AnswerLemmas.{all_rows, many, rows_besides}
use Rattle.path_lowering.proofs.LaidLemmas.{are, all_fit, block_laid, planned}
use Rattle.path_lowering.proofs.Lists.{append-nil, filter-each, map-again, map-each}
use Rattle.path_lowering.proofs.Theorems.{block_kept}
use Rattle.shortest_lowering.specs.NoShorter.{true_tuples}
use Rattle.shortest_lowering.specs.Selected.{shorter_of, selected_block}
use Rattle.shortest_lowering.specs.StandsFor.{row_of_item, rows_by, IsBindingOf, StandForBindings}
use Rattle.shortest_lowering.proofs.OneToOne.{one_to_one}
use Rattle.shortest_lowering.proofs.SelectedMeans.{say, long}
use Rattle.shortest_lowering.proofs.SelectedRows.{first_rows, last_rows, keeps, keeps_all}

-- a list cut into the parts of the paths
abbrev pub cut : {X : Type 0} → List PathBlock → List X → List (List X)
cut [] xs = []
cut (part ∷ parts) xs = take (length part.elements) xs ∷ cut parts (drop (length part.elements) xs)

pub cut_items : {X : Type 0} (f : ℕ → X) (parts : List PathBlock) (items : List ℕ) → map (map f) (items_by_path parts items) ≡ cut parts (map f items)
cut_items f [] items = refl
cut_items f (part ∷ parts) items =
    ap₂ (λ xs more. xs ∷ more) (sym (take-map f (length part.elements) items))
    (cut_items f parts (drop (length part.elements) items) ∙ ap (cut parts) (sym (drop-map f (length part.elements) items)))

cut_joined : {X : Type 0} (parts : List PathBlock) (rows : List (List X)) → AllZip (λ own part. length own ≡ length part.elements) rows parts
    → cut parts (flat_map (λ own. own) rows) ≡ rows
cut_joined [] [] long = refl
cut_joined [] (own ∷ rows) long = absurd long
cut_joined (part ∷ parts) [] long = absurd long
cut_joined (part ∷ parts) (own ∷ rows) long =
    ap₂ (λ xs more. xs ∷ more) (first_rows own (flat_map (λ r. r) rows) (length part.elements) long.0)
    (ap (cut parts) (last_rows own (flat_map (λ r. r) rows) (length part.elements) long.0) ∙ cut_joined parts rows long.1)

under_none : (those : List Tuple) → map (λ own. own ++ []) those ≡ those
under_none those = map-each (λ (own : Tuple). own ++ []) (λ own. own) those (λ own h. append-nil own) ∙ map-id those

-- the tuples of a SELECT by itself are those under no other
pub true_tuples_are : (catalog : Catalog) (instance : InstanceRows) (select : Select) → true_tuples catalog instance select
    ≡ filter (λ tuple. list_all (holds catalog tuple) (all_members select.from) && list_all (λ conjunct. conjunct tuple) (map (conjunct_holds catalog instance) select.conjuncts))
    (tuples_under catalog instance select.from [])
true_tuples_are catalog instance select =
    filter-each _ _ (tuples catalog instance select.from)
    (λ tuple h.
    ap (λ b. list_all (holds catalog tuple) (all_members select.from) && b)
    (sym (list_all-map (λ conjunct. conjunct tuple) (conjunct_holds catalog instance) select.conjuncts)))
    ∙ ap (filter _) (sym (under_none (tuples catalog instance select.from)))

module _ (catalog : Catalog) (query : CheckedQuery) (instance : InstanceRows) (fitting : IsFitting catalog (graph_at catalog query.graph) instance)
    (ok : IsLowerable (graph_at catalog query.graph) query) (combined : Combining) (combines : IsCombining combined) (block : Block)
    (there : IsIn block (blocks (graph_at catalog query.graph) query)) where
  abbrev graph : Graph
  graph = graph_at catalog query.graph

  valid : IsValidGraph catalog graph
  valid = fitting.valid.graphs graph fitting.there

  abbrev parts : List Laid
  parts = laid_block catalog graph 65 combined query block

  abbrev spots : List Spot
  spots = laid_spots parts

  abbrev more : List Conjunct
  more = flat_map (shorter_of catalog graph combined) parts

  abbrev select : Select
  select = selected_block catalog graph combined query block

  abbrev items : List ℕ
  items = plan_of (query_singletons query) (flat_map (λ part. part.tags) block.paths)

  abbrev plan : SelectPlan
  plan = plan_of_block query block

  abbrev those : List Tuple
  those = true_tuples catalog instance select

  abbrev seen : Tuple → List RowValues
  seen tuple = map (row_at (map (λ bound. bound.row) tuple)) spots

  abbrev passing : List (List (List RowValues))
  passing = filter (rows_pass graph instance query [] block) (block_tuples graph instance block)

  laid : IsBlockLaid catalog graph 65 (query_singletons query) parts query.condition query.columns
  laid = block_laid catalog graph valid instance fitting.fits query ok 65 combined combines block there

  -- the rows at all places
  all_seen : map seen those ≡ map all_rows passing
  all_seen =
      let belong = are catalog graph valid instance fitting.fits query ok 65 combined combines block there in
      let fit = all_fit catalog graph valid instance fitting.fits query ok query.paths block.paths belong in
      ap (map seen) (true_tuples_are catalog instance select)
      ∙ block_kept catalog graph instance 65 (query_singletons query) parts query.condition query.columns fitting.valid fitting.there fitting.fits laid [] more
      (keeps graph instance query.paths block.paths) [] (say catalog instance query fitting ok combined combines block there)
      ∙ rows_besides graph instance catalog 65 combined query block items fit (long catalog instance query fitting ok combined combines block there)
      (keeps graph instance query.paths block.paths)
      (λ rows h. keeps_all graph instance query.paths block.paths rows fit (from_combinations rows (map (λ part. row_tuples graph instance part.elements) block.paths) h))

  plan_sees : (tuple : Tuple) → rows_by plan tuple ≡ cut block.paths (seen tuple)
  plan_sees tuple =
      cut_items (row_of_item tuple) block.paths items
      ∙ ap (λ l. cut block.paths (map (row_of_item tuple) l)) (sym (planned catalog graph valid instance fitting.fits query ok 65 combined combines block there))
      ∙ ap (cut block.paths) (map-again (row_of_item tuple) (λ spot. spot.item) spots)

  -- the rows that the plan finds in the tuples are those of the block's graph bindings
  pub plan_finds : map (rows_by plan) those ≡ passing
  plan_finds =
      let belong = are catalog graph valid instance fitting.fits query ok 65 combined combines block there in
      let fit = all_fit catalog graph valid instance fitting.fits query ok query.paths block.paths belong in
      map-each (rows_by plan) (λ tuple. cut block.paths (seen tuple)) those (λ tuple h. plan_sees tuple)
      ∙ sym (map-again (cut block.paths) seen those)
      ∙ ap (map (cut block.paths)) all_seen
      ∙ map-again (cut block.paths) all_rows passing
      ∙ map-each (λ rows. cut block.paths (all_rows rows)) (λ rows. rows) passing
      (λ rows h. cut_joined block.paths rows
      (many graph instance catalog 65 combined query block items fit (long catalog instance query fitting ok combined combines block there) rows
      (from_filter (rows_pass graph instance query [] block) rows (block_tuples graph instance block) h).0))
      ∙ map-id passing

  passing_once : IsWithoutRepeats passing
  passing_once =
      filter_without (rows_pass graph instance query [] block) (block_tuples graph instance block)
      (combinations_once (map (λ part. row_tuples graph instance part.elements) block.paths)
      (all_tuples_once catalog graph valid instance fitting.fits [] (enumerate_from 0 query.paths) block.paths
      (block_picks catalog graph valid instance fitting.fits [] query block there)))

  -- rows that pass are those of a binding of the block
  bound : (rows : List (List RowValues)) → IsIn rows passing
      → IsBindingOf graph instance query block (bindings_with graph block.paths rows)
      × (map (λ part. rows_along graph instance part.walk) (bindings_with graph block.paths rows) ≡ rows)
  bound rows h =
      let binding = bindings_with graph block.paths rows in
      let of = from_filter (rows_pass graph instance query [] block) rows (block_tuples graph instance block) h in
      let own = rows_bound catalog graph valid instance fitting.fits [] query block there rows of.0 in
      let made : IsIn binding (flat_map (graph_bindings_by_rows graph instance query []) (blocks graph query)) =
      in_flat (graph_bindings_by_rows graph instance query []) binding block (blocks graph query) there (in_map (bindings_with graph block.paths) rows passing h) in
      let known : IsBindingOf graph instance query block binding = record {
        there = permuted_in _ _ (IsPermutation-sym _ _ (same_graph_bindings catalog graph valid instance fitting.fits [] query)) binding made;
        lies = own.lie;
      } in
      (known, own.again)

  -- a binding of the block is made of such rows
  found : (binding : GraphBinding) → IsBindingOf graph instance query block binding
      → (rows : List (List RowValues)) × IsIn rows passing × (bindings_with graph block.paths rows ≡ binding)
  found binding is =
      let made = permuted_in (graph_bindings graph instance query []) (flat_map (graph_bindings_by_rows graph instance query []) (blocks graph query))
      (same_graph_bindings catalog graph valid instance fitting.fits [] query) binding is.there in
      let of = from_flat (graph_bindings_by_rows graph instance query []) binding (blocks graph query) made in
      let rows = from_map (bindings_with graph of.0.paths) binding (filter (rows_pass graph instance query [] of.0) (block_tuples graph instance of.0)) of.2 in
      let kept = from_filter (rows_pass graph instance query [] of.0) rows.0 (block_tuples graph instance of.0) rows.1 in
      let own = rows_bound catalog graph valid instance fitting.fits [] query of.0 of.1 rows.0 kept.0 in
      let lies : LieIn binding of.0 = subst (λ (b : GraphBinding). LieIn b of.0) rows.2 own.lie in
      let same : of.0 ≡ block = only_block graph query binding of.0 of.1 lies ∙ sym (only_block graph query binding block there is.lies) in
      subst (λ (b : Block). (r : List (List RowValues)) × IsIn r (filter (rows_pass graph instance query [] b) (block_tuples graph instance b))
      × (bindings_with graph b.paths r ≡ binding)) same rows

  pub block_stands : StandForBindings catalog instance query block plan select
  block_stands =
      one_to_one (IsBindingOf graph instance query block) (rows_by plan) (bindings_with graph block.paths) (map (λ part. rows_along graph instance part.walk)) those passing
      plan_finds passing_once bound found
