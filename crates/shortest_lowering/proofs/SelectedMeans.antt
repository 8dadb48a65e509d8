-- The SQL query of a query with selectors has the answer's rows.
use Rattle.std.proofs.Common.{◌≡◌, ℕ, false, true, ◌&&◌, List, [], ◌∷◌, ◌++◌, map, flat_map, length, refl, sym, ap, subst, ◌∙◌}
use Rattle.pgq_base.specs.declared.value.Value.TheVariants.{Truth}
use Rattle.pgq_base.specs.Instances.{InstanceRows}
use Rattle.multisets.specs.Bags.{IsIn, IsSameMultiset}
use Rattle.expr_tree.specs.declared.tree.Expr.TheVariants.{Lit}
use Rattle.expr_tree.specs.Meaning.{truth_of_value}
use Rattle.expr_tree.proofs.FormLemmas.{values}
use Rattle.graph_ast.specs.declared.catalog.Catalog.{Catalog}
use Rattle.graph_ast.specs.declared.catalog.Graph.{Graph}
use Rattle.graph_ast.specs.declared.checked.CheckedQuery.{CheckedQuery}
use Rattle.graph_ast.specs.declared.checked.Output.{Output}
use Rattle.graph_ast.specs.declared.blocks.Block.{Block}
use Rattle.graph_ast.specs.Lookups.{graph_at}
use Rattle.graph_ast.specs.Catalogs.{IsValidGraph}
use Rattle.graph_meaning.specs.Answers.{query_singletons, answer}
use Rattle.graph_meaning.specs.Blocks.{blocks}
use Rattle.graph_meaning.specs.Laws.{IsFitting}
use Rattle.graph_meaning.specs.Rows.{tuples, answer_of_block}
use Rattle.graph_meaning.proofs.Members.{from_combinations}
use Rattle.graph_meaning.proofs.AnswerRows.{same_answer}
use Rattle.graph_meaning.proofs.GraphRows.{block_picks}
use Rattle.sql_algebra.specs.declared.tree.Select.{Select}
use Rattle.sql_algebra.specs.declared.tree.Conjunct.TheVariants.{Plain}
use Rattle.sql_algebra.specs.Tuples.{Tuple, leaf_value, is_true, tuples_under}
use Rattle.sql_algebra.specs.Meaning.{conjunct_holds, select_rows, output_row, bag}
use Rattle.sql_algebra.proofs.Folds.{select_means, plain_means}
use Rattle.path_lowering.specs.Blocks.{Laid, laid_spots, plan_of}
use Rattle.path_lowering.specs.Emitted.{SqlCondition}
use Rattle.path_lowering.specs.Selects.{SayBesides}
use Rattle.path_lowering.specs.Lowered.{Combining, IsCombining, IsLowerable, laid_block, select_of_none, or_none}
use Rattle.path_lowering.proofs.Lists.{flat_map-each, filter-each, filter-none}
use Rattle.path_lowering.proofs.Theorems.{block_besides}
use Rattle.path_lowering.proofs.AnswerLemmas.{block_is_besides}
use Rattle.path_lowering.proofs.LaidLemmas.{are, all_fit, plan_is_long, block_laid}
use Rattle.shortest_lowering.specs.Selected.{shorter_of, selected_block, selected_query}
use Rattle.shortest_lowering.proofs.SelectedRows.{keeps, keeps_all, all_paths}

abbrev never : SqlCondition
never = Lit (Truth false)

module _ (catalog : Catalog) (instance : InstanceRows) where
  never_holds : (tuple : Tuple) → (true && (conjunct_holds catalog instance (Plain never) tuple && true)) ≡ false
  never_holds tuple =
      ap (λ f. f tuple && true) (plain_means catalog instance never)
      ∙ ap (λ v. is_true (truth_of_value v) && true) ((values (leaf_value catalog tuple)).literal (Truth false))

  -- the SELECT with WHERE FALSE has no row
  none_rows : (graph : Graph) (outputs : List Output) → select_rows catalog instance (select_of_none catalog graph 65 outputs) [] ≡ []
  none_rows graph outputs =
      let none = select_of_none catalog graph 65 outputs in
      ap (λ f. f []) (select_means catalog instance none)
      ∙ ap (map (output_row catalog none.columns))
      (filter-each _ (λ tuple. false) (tuples_under catalog instance none.from []) (λ tuple h. never_holds tuple) ∙ filter-none (tuples_under catalog instance none.from []))

  -- the rows of all SELECTs, block by block
  bag_of : (graph : Graph) (outputs : List Output) (make : Block → Select) (those : List Block)
      → flat_map (λ select. select_rows catalog instance select []) (or_none (select_of_none catalog graph 65 outputs) (map make those))
      ≡ flat_map (λ block. select_rows catalog instance (make block) []) those
  bag_of graph outputs make [] = ap (λ l. l ++ []) (none_rows graph outputs)
  bag_of graph outputs make (b ∷ bs) = ap (λ l. select_rows catalog instance (make b) [] ++ l) (each bs)
    where
      each : (bs : List Block)
          → flat_map (λ select. select_rows catalog instance select []) (map make bs) ≡ flat_map (λ block. select_rows catalog instance (make block) []) bs
      each [] = refl
      each (c ∷ cs) = ap (λ l. select_rows catalog instance (make c) [] ++ l) (each cs)

  module _ (query : CheckedQuery) (fitting : IsFitting catalog (graph_at catalog query.graph) instance) (ok : IsLowerable (graph_at catalog query.graph) query)
      (combined : Combining) (combines : IsCombining combined) where
    abbrev graph : Graph
    graph = graph_at catalog query.graph

    valid : IsValidGraph catalog graph
    valid = fitting.valid.graphs graph fitting.there

    module _ (block : Block) (there : IsIn block (blocks graph query)) where
      abbrev parts : List Laid
      parts = laid_block catalog graph 65 combined query block

      abbrev plan : List ℕ
      plan = plan_of (query_singletons query) (flat_map (λ part. part.tags) block.paths)

      pub long : length plan ≡ length (flat_map (λ part. part.elements) block.paths)
      long = plan_is_long catalog graph valid instance fitting.fits query ok 65 combined combines block there

      -- the conjuncts of the selectors say what the selectors keep
      pub say : SayBesides catalog graph instance 65 (laid_spots parts) [] [] (flat_map (shorter_of catalog graph combined) parts) (keeps graph instance query.paths block.paths)
      say = λ rows tuple shows under.
          all_paths catalog graph instance combined fitting.valid fitting.there fitting.fits valid query ok combines tuple rows 0 query.paths block.paths plan (λ path h. h)
          (block_picks catalog graph valid instance fitting.fits [] query block there) long (ok.few block there) shows

      -- the rows of a block's SELECT are the block's part of the answer
      pub selected_block_is : select_rows catalog instance (selected_block catalog graph combined query block) [] ≡ answer_of_block graph instance query [] [] block
      selected_block_is =
          let belong = are catalog graph valid instance fitting.fits query ok 65 combined combines block there in
          let fit = all_fit catalog graph valid instance fitting.fits query ok query.paths block.paths belong in
          block_besides catalog graph instance 65 (query_singletons query) parts query.condition query.columns fitting.valid fitting.there fitting.fits
          (block_laid catalog graph valid instance fitting.fits query ok 65 combined combines block there)
          [] (flat_map (shorter_of catalog graph combined) parts) (keeps graph instance query.paths block.paths) [] say
          ∙ block_is_besides graph instance catalog 65 combined query block plan fit long (keeps graph instance query.paths block.paths)
          (λ rows h. keeps_all graph instance query.paths block.paths rows fit (from_combinations rows (map (λ part. tuples graph instance part.elements) block.paths) h))

    bag_is : bag catalog (selected_query catalog combined query) instance ≡ flat_map (answer_of_block graph instance query [] []) (blocks graph query)
    bag_is =
        bag_of graph query.columns (selected_block catalog graph combined query) (blocks graph query)
        ∙ flat_map-each _ (answer_of_block graph instance query [] []) (blocks graph query) selected_block_is

    pub selected_is : IsSameMultiset (answer catalog query [] [] instance) (bag catalog (selected_query catalog combined query) instance)
    selected_is =
        subst (IsSameMultiset (answer catalog query [] [] instance)) (sym bag_is) (same_answer catalog graph valid instance fitting.fits query [] [])
