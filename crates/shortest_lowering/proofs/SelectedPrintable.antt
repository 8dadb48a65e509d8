-- The SQL query of a query, selectors included, has a text.
use Rattle.std.proofs.Common.{◌≡◌, ◌≤◌, true, false, List, [], ◌∷◌, ◌++◌, map, flat_map, filter, length, refl, sym, ap, subst, ◌∙◌, arith}
use Rattle.std.proofs.Math.ListN.{length-map}
use Rattle.std.proofs.lemmas.List.Folds.{list_all-map}
use Rattle.pgq_base.specs.declared.value.Value.TheVariants.{Truth}
use Rattle.multisets.specs.Bags.{IsIn}
use Rattle.expr_tree.specs.Classes.{class_in}
use Rattle.expr_tree.specs.declared.tree.Expr.TheVariants.{Lit}
use Rattle.graph_ast.specs.declared.catalog.Catalog.{Catalog}
use Rattle.graph_ast.specs.declared.catalog.Graph.{Graph}
use Rattle.graph_ast.specs.declared.checked.CheckedQuery.{CheckedQuery}
use Rattle.graph_ast.specs.declared.blocks.Block.{Block}
use Rattle.graph_ast.specs.declared.blocks.PathBlock.{PathBlock}
use Rattle.graph_ast.specs.Catalogs.{IsValidGraph}
use Rattle.graph_ast.specs.Fits.{Fits, without_rows}
use Rattle.graph_ast.specs.Lookups.{graph_at, vertex_element}
use Rattle.graph_meaning.specs.Answers.{query_singletons}
use Rattle.graph_meaning.specs.Blocks.{path_blocks, blocks}
use Rattle.graph_meaning.specs.Weights.{is_candidate}
use Rattle.graph_meaning.proofs.Members.{in_flat}
use Rattle.sql_algebra.specs.declared.tree.Conjunct.TheVariants.{NotExists}
use Rattle.sql_algebra.specs.declared.tree.Select.{Select}
use Rattle.sql_algebra.specs.Printable.{select_is_printable, column_is_printable, IsPrintable}
use Rattle.sql_algebra.specs.Soundness.{Reach}
use Rattle.path_lowering.specs.declared.spots.Spot.{Spot}
use Rattle.path_lowering.specs.Adding.{null_of}
use Rattle.path_lowering.specs.Emitted.{SqlCondition}
use Rattle.path_lowering.specs.Placed.{from_of}
use Rattle.path_lowering.specs.Blocks.{Laid, laid_spots, sources_of, block_conditions}
use Rattle.path_lowering.specs.Selects.{IsBlockLaid}
use Rattle.path_lowering.specs.Shortest.{candidate_select, candidate_laid}
use Rattle.path_lowering.specs.Lowered.{Combining, IsCombining, laid_block, select_of_none, or_none}
use Rattle.path_lowering.specs.Layable.{IsServed}
use Rattle.path_lowering.specs.Sound.{class_is, IsBuilding}
use Rattle.path_lowering.specs.SoundTexts.{HasNames, IsSpelledQuery}
use Rattle.path_lowering.proofs.LaidLemmas.{block_laid}
use Rattle.path_lowering.proofs.LayableLemmas.{first_table}
use Rattle.path_lowering.proofs.PlacingLemmas.{and_join, of_each}
use Rattle.path_lowering.proofs.ServedLemmas.{graph_valid}
use Rattle.path_lowering.proofs.SharedLemmas.{in_mapped}
use Rattle.path_lowering.proofs.SoundQuery.{from_block}
use Rattle.path_lowering.proofs.SoundReach.{IsReached, reached}
use Rattle.path_lowering.proofs.PrintableForms.{one_there, alias_is_name, null_printable, truth_printable}
use Rattle.path_lowering.proofs.PrintableSelect.{table_named_well, conjunct_printable, plain_printable, select_printed, IsSpelledLaid, besides_has_text}
use Rattle.path_lowering.proofs.PrintableShortest.{none_printable}
use Rattle.shortest_lowering.specs.Selected.{shorter_of, selected_block, selected_query}
use Rattle.shortest_lowering.proofs.SelectedParts.{each_shorter, each_select, some_place, among, other_there, other_few, first_same, last_same}

module _ (catalog : Catalog) (query : CheckedQuery) (served : IsServed catalog query) (fits : Fits catalog (without_rows catalog)) (combined : Combining)
    (combines : IsCombining combined) (builds : IsBuilding combined) (named : HasNames catalog) (ok : IsSpelledQuery query) where
  abbrev graph : Graph
  graph = graph_at catalog query.graph

  valid : IsValidGraph catalog graph
  valid = graph_valid catalog query served fits

  module _ (block : Block) (there : IsIn block (blocks graph query)) where
    abbrev parts : List Laid
    parts = laid_block catalog graph 65 combined query block

    laid : IsBlockLaid catalog graph 65 (query_singletons query) parts query.condition query.columns
    laid = block_laid catalog graph valid (without_rows catalog) fits query served.lowerable 65 combined combines block there

    made : (one : Laid) → IsIn one parts → IsSpelledLaid catalog graph 65 combined one
    made one h =
        let from = from_block catalog query served fits combined 65 block there one h in
        record {
          some = from.chosen.some;
          conditions = from.conditions;
          scoped = λ choice k scoped l. ok.conditions one.path from.chosen.among choice (from.chosen.choices choice k) scoped l;
        }

    abbrev conditions : List SqlCondition
    conditions = block_conditions catalog graph 65 (query_singletons query) parts query.condition ++ []

    abbrev reach : Reach
    reach = from_of (sources_of catalog graph 65 (laid_spots parts)) conditions ++ []

    reached_all : (spot : Spot) → IsIn spot (laid_spots parts) → IsReached catalog graph 65 reach spot
    reached_all = reached catalog graph 65 (query_singletons query) parts query.condition query.columns served.valid valid laid conditions []

    candidate_printable : (one : Laid) → IsIn one parts → (other : PathBlock) → IsIn other (filter (is_candidate one.part) (path_blocks graph one.part.path one.path))
        → conjunct_printable (NotExists (candidate_select catalog graph (candidate_laid catalog graph combined one.path other) one.spots)) ≡ true
    candidate_printable one h other k =
        let rows = without_rows catalog in
        none_printable catalog graph served.valid valid rows fits query served.lowerable combined combines builds named ok one.path
        (among catalog graph valid rows fits query served.lowerable combined combines block there one h other k) one.part.path other
        (other_there catalog graph valid rows fits query served.lowerable combined combines block there one h other k)
        (other_few catalog graph valid rows fits query served.lowerable combined combines block there one h other k) one.spots
        (some_place catalog graph valid rows fits query served.lowerable combined combines block there one h) reach
        (λ spot l. reached_all spot (in_flat (λ laid. laid.spots) spot one parts h l))
        (first_same catalog graph valid rows fits query served.lowerable combined combines block there one h other k)
        (last_same catalog graph valid rows fits query served.lowerable combined combines block there one h other k)

    block_printable : select_is_printable (selected_block catalog graph combined query block) ≡ true
    block_printable =
        let shorter = flat_map (shorter_of catalog graph combined) parts in
        besides_has_text catalog graph 65 (omega arith) (query_singletons query) parts query.condition query.columns served.valid valid laid combined builds named made
        ok.condition ok.columns ok.some ok.names [] shorter refl
        (list_all-map (λ b. b) conjunct_printable shorter ∙ each_shorter catalog graph combined conjunct_printable parts candidate_printable)

  abbrev none : Select
  none = select_of_none catalog graph 65 query.columns

  no_block_printable : select_is_printable none ≡ true
  no_block_printable =
      select_printed none
      ∙ and_join _ _ (one_there none.columns (subst (λ n. 1 ≤ n) (sym (length-map query.columns null_of)) ok.some))
      (and_join _ _
      (of_each column_is_printable none.columns
      (λ column h. let m = in_mapped null_of column query.columns h in
      ap column_is_printable (sym m.2) ∙ and_join _ _ (null_printable (class_in class_is m.0.value)) (ok.names m.0 m.1)))
      (and_join _ _ refl
      (and_join _ _
      (and_join _ _
      (and_join _ _ (table_named_well catalog named (vertex_element graph 0).table (first_table catalog graph valid))
      (and_join _ _ (alias_is_name 65 0 (omega arith) (omega arith)) refl))
      refl)
      (and_join _ _ (plain_printable (Lit (Truth false)) ∙ truth_printable false) refl))))

  some_select : (those : List Select) → 1 ≤ length (or_none none those)
  some_select [] = omega arith
  some_select (s ∷ ss) = omega arith

  pub selected_printable : IsPrintable (selected_query catalog combined query)
  selected_printable =
      let selects = map (selected_block catalog graph combined query) (blocks graph query) in
      and_join _ _ (one_there (or_none none selects) (some_select selects))
      (each_select select_is_printable none (selected_block catalog graph combined query) (blocks graph query) no_block_printable block_printable)
