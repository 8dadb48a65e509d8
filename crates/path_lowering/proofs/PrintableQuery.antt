-- The lowered query has a text.
use Rattle.std.proofs.Common.{◌≡◌, ◌≤◌, true, false, List, [], ◌∷◌, map, length, refl, sym, ap, subst, ◌∙◌, inl, inr, arith}
use Rattle.std.specs.List.{list_all}
use Rattle.std.proofs.Math.ListN.{length-map}
use Rattle.pgq_base.specs.declared.value.Value.TheVariants.{Truth}
use Rattle.multisets.specs.Bags.{IsIn}
use Rattle.expr_tree.specs.Classes.{class_in}
use Rattle.expr_tree.specs.declared.tree.Expr.TheVariants.{Lit}
use Rattle.graph_ast.specs.declared.catalog.Catalog.{Catalog}
use Rattle.graph_ast.specs.declared.catalog.Graph.{Graph}
use Rattle.graph_ast.specs.declared.checked.CheckedQuery.{CheckedQuery}
use Rattle.graph_ast.specs.declared.blocks.Block.{Block}
use Rattle.graph_ast.specs.Catalogs.{IsValidGraph}
use Rattle.graph_ast.specs.Fits.{Fits, without_rows}
use Rattle.graph_ast.specs.Lookups.{graph_at, vertex_element}
use Rattle.graph_meaning.specs.Answers.{query_singletons}
use Rattle.graph_meaning.specs.Blocks.{blocks}
use Rattle.sql_algebra.specs.declared.tree.Select.{Select}
use Rattle.sql_algebra.specs.Printable.{select_is_printable, column_is_printable, IsPrintable}
use Rattle.path_lowering.specs.Adding.{null_of}
use Rattle.path_lowering.specs.Blocks.{Laid}
use Rattle.path_lowering.specs.Selects.{IsBlockLaid}
use Rattle.path_lowering.specs.Lowered.{Combining, IsCombining, laid_block, select_of_block, select_of_none, or_none, lowered_query}
use Rattle.path_lowering.specs.Layable.{IsServed}
use Rattle.path_lowering.specs.Sound.{class_is, IsBuilding}
use Rattle.path_lowering.specs.SoundTexts.{HasNames, IsSpelledQuery}
use Rattle.path_lowering.proofs.LaidLemmas.{block_laid}
use Rattle.path_lowering.proofs.LayableLemmas.{first_table}
use Rattle.path_lowering.proofs.PlacingLemmas.{and_join, of_each}
use Rattle.path_lowering.proofs.ServedLemmas.{graph_valid}
use Rattle.path_lowering.proofs.SharedLemmas.{in_mapped}
use Rattle.path_lowering.proofs.SoundQuery.{from_block}
use Rattle.path_lowering.proofs.PrintableForms.{one_there, alias_is_name, null_printable, truth_printable}
use Rattle.path_lowering.proofs.PrintableSelect.{table_named_well, plain_printable, select_printed, IsSpelledLaid, select_has_text}

module _ (catalog : Catalog) (query : CheckedQuery) (served : IsServed catalog query) (fits : Fits catalog (without_rows catalog)) (combined : Combining)
    (combines : IsCombining combined)
    (builds : IsBuilding combined) (named : HasNames catalog) (ok : IsSpelledQuery query) where
  abbrev graph : Graph
  graph = graph_at catalog query.graph

  valid : IsValidGraph catalog graph
  valid = graph_valid catalog query served fits

  laid : (block : Block) → IsIn block (blocks graph query) → IsBlockLaid catalog graph 65 (query_singletons query) (laid_block catalog graph 65 combined query block)
      query.condition query.columns
  laid block there = block_laid catalog graph valid (without_rows catalog) fits query served.lowerable 65 combined combines block there

  made : (block : Block) (there : IsIn block (blocks graph query)) (one : Laid) → IsIn one (laid_block catalog graph 65 combined query block)
      → IsSpelledLaid catalog graph 65 combined one
  made block there one h =
      let from = from_block catalog query served fits combined 65 block there one h in
      record {
        some = from.chosen.some;
        conditions = from.conditions;
        scoped = λ choice k scoped l. ok.conditions one.path from.chosen.among choice (from.chosen.choices choice k) scoped l;
      }

  block_printable : (block : Block) → IsIn block (blocks graph query) → select_is_printable (select_of_block catalog graph 65 combined query block) ≡ true
  block_printable block there =
      select_has_text catalog graph 65 (omega arith) (query_singletons query) (laid_block catalog graph 65 combined query block) query.condition query.columns served.valid
      valid (laid block there)
      combined builds named (made block there) ok.condition ok.columns ok.some ok.names

  abbrev none : Select
  none = select_of_none catalog graph 65 query.columns

  none_printable : select_is_printable none ≡ true
  none_printable =
      select_printed none
      ∙ and_join _ _ (one_there none.columns (subst (λ n. 1 ≤ n) (sym (length-map query.columns null_of)) ok.some))
      (and_join _ _
      (of_each column_is_printable none.columns
      (λ column h. let m = in_mapped null_of column query.columns h in
      ap column_is_printable (sym m.2) ∙ and_join _ _ (null_printable (class_in class_is m.0.value)) (ok.names m.0 m.1)))
      (and_join _ _ refl
      (and_join _ _
      (and_join _ _ (and_join _ _ (table_named_well catalog named (vertex_element graph 0).table (first_table catalog graph valid))
      (and_join _ _ (alias_is_name 65 0 (omega arith) (omega arith)) refl)) refl)
      (and_join _ _ (plain_printable (Lit (Truth false)) ∙ truth_printable false) refl))))

  all_printable : (those : List Block) → ((block : Block) → IsIn block those → IsIn block (blocks graph query))
      → list_all select_is_printable (or_none none (map (select_of_block catalog graph 65 combined query) those)) ≡ true
  all_printable [] there = and_join _ _ none_printable refl
  all_printable (b ∷ bs) there = each (b ∷ bs) there
    where
      each : (some : List Block) → ((block : Block) → IsIn block some → IsIn block (blocks graph query))
          → list_all select_is_printable (map (select_of_block catalog graph 65 combined query) some) ≡ true
      each [] there = refl
      each (c ∷ cs) there = and_join _ _ (block_printable c (there c (inl refl))) (each cs (λ d k. there d (inr k)))

  some_select : (those : List Select) → 1 ≤ length (or_none none those)
  some_select [] = omega arith
  some_select (s ∷ ss) = omega arith

  pub query_printable : IsPrintable (lowered_query catalog combined query)
  query_printable =
      and_join _ _ (one_there (or_none none (map (select_of_block catalog graph 65 combined query) (blocks graph query)))
      (some_select (map (select_of_block catalog graph 65 combined query) (blocks graph query))))
      (all_printable (blocks graph query) (λ block h. h))
