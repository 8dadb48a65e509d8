-- The lowered query has the answer's rows.
use Rattle.std.proofs.Common.{◌≡◌, ℕ, true, false, ◌&&◌, List, [], ◌∷◌, ◌++◌, map, flat_map, refl, sym, ap, subst, ◌∙◌}
use Rattle.pgq_base.specs.declared.value.Value.TheVariants.{Truth}
use Rattle.pgq_base.specs.Instances.{InstanceRows}
use Rattle.multisets.specs.Bags.{IsIn, IsSameMultiset}
use Rattle.expr_tree.specs.declared.tree.Expr.TheVariants.{Lit}
use Rattle.expr_tree.specs.Meaning.{truth_of_value}
use Rattle.expr_tree.proofs.FormLemmas.{values}
use Rattle.graph_ast.specs.declared.catalog.Catalog.{Catalog}
use Rattle.graph_ast.specs.declared.catalog.Graph.{Graph}
use Rattle.graph_ast.specs.declared.checked.CheckedQuery.{CheckedQuery}
use Rattle.graph_ast.specs.declared.blocks.Block.{Block}
use Rattle.graph_ast.specs.Lookups.{graph_at}
use Rattle.graph_ast.specs.Catalogs.{IsValidGraph}
use Rattle.graph_meaning.specs.Answers.{query_singletons, answer}
use Rattle.graph_meaning.specs.Blocks.{blocks}
use Rattle.graph_meaning.specs.Laws.{IsFitting}
use Rattle.graph_meaning.specs.Rows.{answer_of_block}
use Rattle.graph_meaning.proofs.AnswerRows.{same_answer}
use Rattle.sql_algebra.specs.declared.tree.Select.{Select}
use Rattle.sql_algebra.specs.declared.tree.Conjunct.TheVariants.{Plain}
use Rattle.sql_algebra.specs.Tuples.{Tuple, leaf_value, is_true, tuples_under}
use Rattle.sql_algebra.specs.Meaning.{conjunct_holds, select_rows, output_row, bag}
use Rattle.sql_algebra.proofs.Folds.{select_means, plain_means}
use Rattle.path_lowering.specs.Blocks.{plan_of}
use Rattle.path_lowering.specs.Emitted.{SqlCondition}
use Rattle.path_lowering.specs.Lowered.{Combining, IsCombining, IsUnselected, IsLowerable, laid_block, select_of_block, select_of_none, or_none, lowered_query}
use Rattle.path_lowering.proofs.Lists.{flat_map-each, filter-each, filter-none}
use Rattle.path_lowering.proofs.Theorems.{block_select}
use Rattle.path_lowering.proofs.AnswerLemmas.{block_is}
use Rattle.path_lowering.proofs.LaidLemmas.{are, all_fit, plan_is_long, block_laid}

abbrev never : SqlCondition
never = Lit (Truth false)

module _ (catalog : Catalog) (instance : InstanceRows) where
  never_holds : (tuple : Tuple) → (true && (conjunct_holds catalog instance (Plain never) tuple && true)) ≡ false
  never_holds tuple =
      ap (λ f. f tuple && true) (plain_means catalog instance never)
      ∙ ap (λ v. is_true (truth_of_value v) && true) ((values (leaf_value catalog tuple)).literal (Truth false))

  -- the SELECT with WHERE FALSE has no row
  none_rows : (graph : Graph) (prefix : ℕ) (query : CheckedQuery) → select_rows catalog instance (select_of_none catalog graph prefix query.columns) [] ≡ []
  none_rows graph prefix query =
      let none = select_of_none catalog graph prefix query.columns in
      ap (λ f. f []) (select_means catalog instance none)
      ∙ ap (map (output_row catalog none.columns))
      (filter-each _ (λ tuple. false) (tuples_under catalog instance none.from []) (λ tuple h. never_holds tuple) ∙ filter-none (tuples_under catalog instance none.from []))

  bag_of : (graph : Graph) (prefix : ℕ) (query : CheckedQuery) (make : Block → Select) (those : List Block)
      → flat_map (λ select. select_rows catalog instance select []) (or_none (select_of_none catalog graph prefix query.columns) (map make those))
      ≡ flat_map (λ block. select_rows catalog instance (make block) []) those
  bag_of graph prefix query make [] = ap (λ l. l ++ []) (none_rows graph prefix query)
  bag_of graph prefix query make (b ∷ bs) = ap (λ l. select_rows catalog instance (make b) [] ++ l) (each bs)
    where
      each : (bs : List Block) → flat_map (λ select. select_rows catalog instance select []) (map make bs) ≡ flat_map (λ block. select_rows catalog instance (make block) []) bs
      each [] = refl
      each (c ∷ cs) = ap (λ l. select_rows catalog instance (make c) [] ++ l) (each cs)

  module _ (query : CheckedQuery) (fitting : IsFitting catalog (graph_at catalog query.graph) instance) (ok : IsLowerable (graph_at catalog query.graph) query)
      (unselected : IsUnselected query)
      (combined : Combining) (combines : IsCombining combined) where
    abbrev graph : Graph
    graph = graph_at catalog query.graph

    valid : IsValidGraph catalog graph
    valid = fitting.valid.graphs graph fitting.there

    -- the rows of a block's SELECT are the block's part of the answer
    pub select_of_block_is : (block : Block) → IsIn block (blocks graph query)
        → select_rows catalog instance (select_of_block catalog graph 65 combined query block) [] ≡ answer_of_block graph instance query [] [] block
    select_of_block_is block h =
        block_select catalog graph instance 65 (query_singletons query) (laid_block catalog graph 65 combined query block) query.condition query.columns
        fitting.valid fitting.there fitting.fits (block_laid catalog graph valid instance fitting.fits query ok 65 combined combines block h) []
        ∙ block_is graph instance catalog 65 combined query block (plan_of (query_singletons query) (flat_map (λ part. part.tags) block.paths))
        (all_fit catalog graph valid instance fitting.fits query ok query.paths block.paths (are catalog graph valid instance fitting.fits query ok 65 combined combines block h))
        (plan_is_long catalog graph valid instance fitting.fits query ok 65 combined combines block h) unselected

    bag_is : bag catalog (lowered_query catalog combined query) instance ≡ flat_map (answer_of_block graph instance query [] []) (blocks graph query)
    bag_is =
        bag_of graph 65 query (select_of_block catalog graph 65 combined query) (blocks graph query)
        ∙ flat_map-each _ (answer_of_block graph instance query [] []) (blocks graph query) select_of_block_is

    pub lowered_is : IsSameMultiset (answer catalog query [] [] instance) (bag catalog (lowered_query catalog combined query) instance)
    lowered_is =
        subst (IsSameMultiset (answer catalog query [] [] instance)) (sym bag_is) (same_answer catalog graph valid instance fitting.fits query [] [])
