-- The items of a plan: one for each place, over the table of the place's element.
use Rattle.std.proofs.Common.{◌≡◌, ℕ, ◌<◌, ◌≤◌, List, [], ◌∷◌, ◌++◌, map, flat_map, length, drop, slice_index_or, refl, sym, ap, ap₂, subst, ◌∙◌, inl, inr, arith}
use Rattle.std.specs.List.{AllZip}
use Rattle.std.proofs.Math.ListN.{length-map}
use Rattle.std.proofs.lemmas.List.FromFn.{length-range_with_len}
use Rattle.pgq_base.specs.Instances.{InstanceRows}
use Rattle.multisets.specs.Bags.{IsIn}
use Rattle.graph_ast.specs.declared.catalog.Catalog.{Catalog}
use Rattle.graph_ast.specs.declared.catalog.Graph.{Graph}
use Rattle.graph_ast.specs.declared.checked.CheckedPath.{CheckedPath}
use Rattle.graph_ast.specs.declared.checked.CheckedQuery.{CheckedQuery}
use Rattle.graph_ast.specs.declared.blocks.PathBlock.{PathBlock}
use Rattle.graph_ast.specs.declared.blocks.Block.{Block}
use Rattle.graph_ast.specs.Catalogs.{IsValidGraph}
use Rattle.graph_ast.specs.Lookups.{table_at, graph_at}
use Rattle.graph_meaning.specs.Answers.{query_singletons}
use Rattle.graph_meaning.specs.Blocks.{blocks}
use Rattle.graph_meaning.specs.Laws.{IsFitting}
use Rattle.graph_meaning.specs.Lists.{numbers_below}
use Rattle.graph_meaning.proofs.Members.{from_map}
use Rattle.sql_algebra.specs.declared.tree.Conjunct.{Conjunct}
use Rattle.sql_algebra.specs.declared.tree.Select.{Select}
use Rattle.path_lowering.specs.declared.spots.Kind.{Kind}
use Rattle.path_lowering.specs.declared.spots.Kind.TheVariants.{Vertex}
use Rattle.path_lowering.specs.declared.spots.Spot.{Spot}
use Rattle.path_lowering.specs.declared.plans.SelectPlan.{SelectPlan}
use Rattle.path_lowering.specs.Spots.{element_at, other_kind, spots_along}
use Rattle.path_lowering.specs.Blocks.{Laid, laid_spots, plan_of}
use Rattle.path_lowering.specs.Planning.{items_by_path, plan_of_block}
use Rattle.path_lowering.specs.Lowered.{Combining, IsCombining, IsLowerable, lay_all, laid_block}
use Rattle.path_lowering.specs.Selects.{IsBlockLaid}
use Rattle.path_lowering.proofs.AnswerLemmas.{Fitting, items_split, spots_many}
use Rattle.path_lowering.proofs.LaidLemmas.{are, all_fit, block_laid, planned}
use Rattle.path_lowering.proofs.Lists.{map-again, map-append, map-each}
use Rattle.path_lowering.proofs.MemberSteps.{in_take, in_drop}
use Rattle.path_lowering.proofs.Theorems.{block_item}
use Rattle.shortest_lowering.specs.Selected.{shorter_of, selected_block}
use Rattle.shortest_lowering.specs.StandsFor.{no_item, table_of_item, tables_along, HasItems}
use Rattle.shortest_lowering.proofs.BindingTuples.{cut, cut_items}
use Rattle.shortest_lowering.proofs.SelectedMeans.{long}
use Rattle.shortest_lowering.proofs.SelectedRows.{first_rows, last_rows}

-- an item of one path is an item of the plan
in_items : (parts : List PathBlock) (items own : List ℕ) (item : ℕ) → IsIn own (items_by_path parts items) → IsIn item own → IsIn item items
in_items [] items own item h k = absurd h
in_items (part ∷ parts) items own item (inl e) k = in_take item items (length part.elements) (subst (λ (l : List ℕ). IsIn item l) (sym e) k)
in_items (part ∷ parts) items own item (inr h) k = in_drop item items (length part.elements) (in_items parts (drop (length part.elements) items) own item h k)

module _ (catalog : Catalog) (graph : Graph) where
  abbrev table_name : Spot → List ℕ
  table_name spot = (table_at catalog (element_at graph spot).table).name

  -- the tables along a path do not ask for its items
  names_along : (kind : Kind) (ns items others : List ℕ) → length ns ≤ length items → length ns ≤ length others
      → map table_name (spots_along kind ns items) ≡ map table_name (spots_along kind ns others)
  names_along kind [] items others many enough = refl
  names_along kind (n ∷ ns) [] others many enough = absurd (omega (arith, many))
  names_along kind (n ∷ ns) (a ∷ items) [] many enough = absurd (omega (arith, enough))
  names_along kind (n ∷ ns) (a ∷ items) (b ∷ others) many enough =
      ap (λ l. table_name (record { kind = kind; element = n; item = a }) ∷ l) (names_along (other_kind kind) ns items others (omega (arith, many)) (omega (arith, enough)))

  module _ (instance : InstanceRows) (combined : Combining) where
    abbrev laid : List CheckedPath → List PathBlock → List ℕ → List Laid
    laid = lay_all catalog graph 65 combined

    names_cut : (paths : List CheckedPath) (parts : List PathBlock) (items : List ℕ) → AllZip (Fitting graph instance) paths parts
        → length items ≡ length (flat_map (λ (part : PathBlock). part.elements) parts)
        → cut parts (map table_name (laid_spots (laid paths parts items))) ≡ map (tables_along catalog graph) parts
    names_cut [] [] items fit size = refl
    names_cut [] (p ∷ ps) items fit size = absurd fit
    names_cut (path ∷ paths) [] items fit size = absurd fit
    names_cut (path ∷ paths) (p ∷ ps) items fit size =
        let split = items_split graph instance catalog 65 combined p ps items size in
        let own = spots_along Vertex p.elements items in
        let others = laid_spots (laid paths ps (drop (length p.elements) items)) in
        let count : length (map table_name own) ≡ length p.elements = length-map own table_name ∙ spots_many Vertex p.elements items split.0 in
        let numbers = length-range_with_len 0 (length p.elements) in
        ap (cut (p ∷ ps)) (map-append table_name own others)
        ∙ ap₂ (λ xs more. xs ∷ more)
        (first_rows (map table_name own) (map table_name others) (length p.elements) count
        ∙ names_along Vertex p.elements items (numbers_below (length p.elements)) split.0 (omega (arith, numbers)))
        (ap (cut ps) (last_rows (map table_name own) (map table_name others) (length p.elements) count)
        ∙ names_cut paths ps (drop (length p.elements) items) fit.1 split.1)

module _ (catalog : Catalog) (query : CheckedQuery) (instance : InstanceRows) (fitting : IsFitting catalog (graph_at catalog query.graph) instance)
    (ok : IsLowerable (graph_at catalog query.graph) query) (combined : Combining) (combines : IsCombining combined) (block : Block)
    (there : IsIn block (blocks (graph_at catalog query.graph) query)) where
  abbrev own_graph : Graph
  own_graph = graph_at catalog query.graph

  valid : IsValidGraph catalog own_graph
  valid = fitting.valid.graphs own_graph fitting.there

  abbrev parts : List Laid
  parts = laid_block catalog own_graph 65 combined query block

  abbrev spots : List Spot
  spots = laid_spots parts

  abbrev more : List Conjunct
  more = flat_map (shorter_of catalog own_graph combined) parts

  abbrev select : Select
  select = selected_block catalog own_graph combined query block

  abbrev items : List ℕ
  items = plan_of (query_singletons query) (flat_map (λ part. part.tags) block.paths)

  laid_here : IsBlockLaid catalog own_graph 65 (query_singletons query) parts query.condition query.columns
  laid_here = block_laid catalog own_graph valid instance fitting.fits query ok 65 combined combines block there

  items_are : map (λ spot. spot.item) spots ≡ items
  items_are = planned catalog own_graph valid instance fitting.fits query ok 65 combined combines block there

  item_at : (spot : Spot) → IsIn spot spots → (spot.item < length select.from) × (table_of_item select spot.item ≡ table_name catalog own_graph spot)
  item_at spot h =
      block_item catalog own_graph instance 65 (query_singletons query) parts query.condition query.columns fitting.valid fitting.there fitting.fits laid_here
      [] more spot h no_item

  pub block_has_items : HasItems catalog own_graph block (plan_of_block query block) select
  block_has_items =
      let fit = all_fit catalog own_graph valid instance fitting.fits query ok query.paths block.paths
      (are catalog own_graph valid instance fitting.fits query ok 65 combined combines block there) in
      record {
        there = λ own item h k.
            let of = from_map (λ (spot : Spot). spot.item) item spots (subst (λ (l : List ℕ). IsIn item l) (sym items_are) (in_items block.paths items own item h k)) in
            subst (λ n. n < length select.from) of.2 (item_at of.0 of.1).0;
        tables =
            cut_items (table_of_item select) block.paths items
            ∙ ap (cut block.paths)
            (ap (map (table_of_item select)) (sym items_are) ∙ map-again (table_of_item select) (λ spot. spot.item) spots
            ∙ map-each (λ (spot : Spot). table_of_item select spot.item) (table_name catalog own_graph) spots (λ spot h. (item_at spot h).1))
            ∙ names_cut catalog own_graph instance combined query.paths block.paths items fit (long catalog instance query fitting ok combined combines block there);
      }
