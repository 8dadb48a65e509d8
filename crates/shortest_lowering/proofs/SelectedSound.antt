-- The SQL query of a query, selectors included, is sound in the catalog.
use Rattle.std.proofs.Common.{◌≡◌, true, false, List, [], ◌∷◌, ◌++◌, map, flat_map, filter, refl, sym, ap, ap₂, subst, ◌∙◌, inl, inr, is_some}
use Rattle.std.proofs.lemmas.List.Folds.{list_all-map}
use Rattle.pgq_base.specs.declared.value.Class.{Class}
use Rattle.pgq_base.specs.declared.value.Value.TheVariants.{Truth}
use Rattle.multisets.specs.Bags.{IsIn}
use Rattle.expr_tree.specs.declared.tree.Expr.TheVariants.{Lit}
use Rattle.expr_tree.specs.Classes.{class_in}
use Rattle.expr_tree.proofs.ClassLemmas.{same_self}
use Rattle.graph_ast.specs.declared.catalog.Catalog.{Catalog}
use Rattle.graph_ast.specs.declared.catalog.Graph.{Graph}
use Rattle.graph_ast.specs.declared.checked.CheckedQuery.{CheckedQuery}
use Rattle.graph_ast.specs.declared.blocks.Block.{Block}
use Rattle.graph_ast.specs.declared.blocks.PathBlock.{PathBlock}
use Rattle.graph_ast.specs.Catalogs.{IsValidGraph}
use Rattle.graph_ast.specs.Fits.{Fits, without_rows}
use Rattle.graph_ast.specs.Lookups.{graph_at, vertex_element}
use Rattle.graph_meaning.specs.Answers.{query_singletons}
use Rattle.graph_meaning.specs.Blocks.{path_blocks, blocks}
use Rattle.graph_meaning.specs.Weights.{is_candidate}
use Rattle.graph_meaning.proofs.Members.{in_flat}
use Rattle.sql_algebra.specs.declared.tree.Conjunct.TheVariants.{NotExists}
use Rattle.sql_algebra.specs.declared.tree.FromItem.{FromItem}
use Rattle.sql_algebra.specs.declared.tree.Select.{Select}
use Rattle.sql_algebra.specs.Soundness.{Reach, value_is_sound, differ_from, select_is_sound, classes_of, same_classes, selects_agree, IsSound}
use Rattle.sql_algebra.proofs.Folds.{conjunct_is_sound, select_sound, plain_sound}
use Rattle.path_lowering.specs.declared.spots.Spot.{Spot}
use Rattle.path_lowering.specs.Adding.{null_of}
use Rattle.path_lowering.specs.Emitted.{SqlCondition}
use Rattle.path_lowering.specs.Placed.{from_of}
use Rattle.path_lowering.specs.Blocks.{Laid, laid_spots, sources_of, block_conditions}
use Rattle.path_lowering.specs.Selects.{IsBlockLaid}
use Rattle.path_lowering.specs.Shortest.{candidate_select, candidate_laid}
use Rattle.path_lowering.specs.Lowered.{Combining, IsCombining, laid_block, select_of_none, or_none}
use Rattle.path_lowering.specs.Layable.{IsServed}
use Rattle.path_lowering.specs.Sound.{class_is, IsSoundQuery, IsBuilding}
use Rattle.path_lowering.proofs.LaidLemmas.{block_laid}
use Rattle.path_lowering.proofs.LayableLemmas.{first_table}
use Rattle.path_lowering.proofs.Lists.{append-nil, map-again}
use Rattle.path_lowering.proofs.PlacingLemmas.{and_join, of_each}
use Rattle.path_lowering.proofs.ServedLemmas.{graph_valid}
use Rattle.path_lowering.proofs.SharedLemmas.{in_mapped}
use Rattle.path_lowering.proofs.SoundForms.{null_value_sound, truth_sound}
use Rattle.path_lowering.proofs.SoundQuery.{from_block}
use Rattle.path_lowering.proofs.SoundReach.{IsReached, names_apart, table_found, reached, aliases_apart}
use Rattle.path_lowering.proofs.SoundSelect.{IsSoundlyMade, besides_is, classes_are}
use Rattle.path_lowering.proofs.SoundShortest.{none_sound}
use Rattle.path_lowering.proofs.SourceLemmas.{items_numbered}
use Rattle.path_lowering.proofs.TupleLemmas.{AreNumbered}
use Rattle.shortest_lowering.specs.Selected.{shorter_of, selected_block, selected_query}
use Rattle.shortest_lowering.proofs.SelectedParts.{each_shorter, each_select, some_place, among, other_there, other_few, first_same, last_same}

classes_same : (cs : List Class) → same_classes cs cs ≡ true
classes_same [] = refl
classes_same (c ∷ cs) = and_join _ _ (same_self c) (classes_same cs)

-- SELECTs whose columns have the same classes agree
all_agree : (none : Select) (of : Block → Select) (classes : List Class) (those : List Block) → ((block : Block) → IsIn block those → classes_of (of block).columns ≡ classes)
    → selects_agree (or_none none (map of those)) ≡ true
all_agree none of classes [] same = refl
all_agree none of classes (b ∷ bs) same =
    list_all-map (λ select. same_classes (classes_of (of b).columns) (classes_of select.columns)) of bs
    ∙ of_each (λ block. same_classes (classes_of (of b).columns) (classes_of (of block).columns)) bs
    (λ c h. ap₂ same_classes (same b (inl refl)) (same c (inr h)) ∙ classes_same classes)

module _ (catalog : Catalog) (query : CheckedQuery) (served : IsServed catalog query) (fits : Fits catalog (without_rows catalog)) (combined : Combining)
    (combines : IsCombining combined) (builds : IsBuilding combined) (ok : IsSoundQuery catalog (graph_at catalog query.graph) query) where
  abbrev graph : Graph
  graph = graph_at catalog query.graph

  valid : IsValidGraph catalog graph
  valid = graph_valid catalog query served fits

  module _ (block : Block) (there : IsIn block (blocks graph query)) where
    abbrev parts : List Laid
    parts = laid_block catalog graph 65 combined query block

    laid : IsBlockLaid catalog graph 65 (query_singletons query) parts query.condition query.columns
    laid = block_laid catalog graph valid (without_rows catalog) fits query served.lowerable 65 combined combines block there

    made : (one : Laid) → IsIn one parts → IsSoundlyMade catalog graph 65 combined one
    made one h =
        let from = from_block catalog query served fits combined 65 block there one h in
        record {
          some = from.chosen.some;
          conditions = from.conditions;
          scoped = λ choice k scoped l. ok.conditions one.path from.chosen.among choice (from.chosen.choices choice k) scoped l;
        }

    abbrev conditions : List SqlCondition
    conditions = block_conditions catalog graph 65 (query_singletons query) parts query.condition ++ []

    abbrev items : List FromItem
    items = from_of (sources_of catalog graph 65 (laid_spots parts)) conditions

    abbrev reach : Reach
    reach = items ++ []

    numbered : AreNumbered 65 0 reach
    numbered = subst (AreNumbered 65 0) (sym (append-nil items)) (items_numbered catalog graph 65 (laid_spots parts) conditions)

    reached_all : (spot : Spot) → IsIn spot (laid_spots parts) → IsReached catalog graph 65 reach spot
    reached_all = reached catalog graph 65 (query_singletons query) parts query.condition query.columns served.valid valid laid conditions []

    candidate_sound : (one : Laid) → IsIn one parts → (other : PathBlock) → IsIn other (filter (is_candidate one.part) (path_blocks graph one.part.path one.path))
        → conjunct_is_sound catalog (NotExists (candidate_select catalog graph (candidate_laid catalog graph combined one.path other) one.spots)) reach ≡ true
    candidate_sound one h other k =
        let rows = without_rows catalog in
        none_sound catalog graph served.valid valid rows fits query served.lowerable combined combines builds ok one.path
        (among catalog graph valid rows fits query served.lowerable combined combines block there one h other k) one.part.path other
        (other_there catalog graph valid rows fits query served.lowerable combined combines block there one h other k)
        (other_few catalog graph valid rows fits query served.lowerable combined combines block there one h other k) one.spots
        (some_place catalog graph valid rows fits query served.lowerable combined combines block there one h) reach numbered
        (λ spot l. reached_all spot (in_flat (λ laid. laid.spots) spot one parts h l))
        (first_same catalog graph valid rows fits query served.lowerable combined combines block there one h other k)
        (last_same catalog graph valid rows fits query served.lowerable combined combines block there one h other k)

    block_sound : select_is_sound catalog (selected_block catalog graph combined query block) [] ≡ true
    block_sound =
        let shorter = flat_map (shorter_of catalog graph combined) parts in
        besides_is catalog graph 65 (query_singletons query) parts query.condition query.columns served.valid valid laid combined builds made ok.condition ok.columns
        [] shorter []
        (aliases_apart catalog graph 65 (query_singletons query) parts query.condition query.columns served.valid valid laid conditions) refl
        (list_all-map (λ conjunct. conjunct reach) (conjunct_is_sound catalog) shorter
        ∙ each_shorter catalog graph combined (λ conjunct. conjunct_is_sound catalog conjunct reach) parts candidate_sound)
        ok.names

    block_classes : classes_of (selected_block catalog graph combined query block).columns ≡ map (λ output. class_in class_is output.value) query.columns
    block_classes =
        classes_are catalog graph 65 (query_singletons query) parts query.condition query.columns served.valid valid laid combined builds made ok.condition ok.columns

  abbrev none : Select
  none = select_of_none catalog graph 65 query.columns

  no_block_sound : select_is_sound catalog none [] ≡ true
  no_block_sound =
      ap (λ f. f []) (select_sound catalog none)
      ∙ and_join _ _ (and_join _ _ (and_join _ _ (and_join _ _ (and_join _ _
      (and_join _ _ (ap is_some (table_found catalog served.valid (vertex_element graph 0).table (first_table catalog graph valid))) refl)
      refl)
      (ap (differ_from []) (map-again (λ column. column.name) null_of query.columns) ∙ names_apart (map (λ output. output.name) query.columns) ok.names))
      (of_each (λ column. value_is_sound catalog (none.from) column.value) none.columns
      (λ column h. let m = in_mapped null_of column query.columns h in
      ap (λ c. value_is_sound catalog (none.from) c.value) (sym m.2) ∙ null_value_sound catalog none.from (class_in class_is m.0.value))))
      refl)
      (and_join _ _ (ap (λ f. f none.from) (plain_sound catalog (Lit (Truth false))) ∙ truth_sound catalog none.from false) refl)

  pub selected_sound : IsSound (selected_query catalog combined query) catalog
  selected_sound =
      and_join _ _ (each_select (λ select. select_is_sound catalog select []) none (selected_block catalog graph combined query) (blocks graph query) no_block_sound block_sound)
      (all_agree none (selected_block catalog graph combined query) (map (λ output. class_in class_is output.value) query.columns) (blocks graph query) block_classes)
