-- NOT EXISTS of a candidate has a text.
use Rattle.std.proofs.Common.{◌≡◌, ℕ, ◌<◌, ◌≤◌, ◌^◌, Bool, true, List, [], ◌∷◌, ◌++◌, map, length, refl, sym, subst, ◌∙◌, inl, inr, None, Some, arith}
use Rattle.std.specs.Prelude.{pos}
use Rattle.std.specs.List.{list_all}
use Rattle.pgq_base.specs.declared.value.Value.TheVariants.{Number}
use Rattle.pgq_base.specs.Instances.{InstanceRows}
use Rattle.multisets.specs.Bags.{IsIn}
use Rattle.expr_tree.specs.declared.tree.Comparison.TheVariants.{Equal}
use Rattle.expr_tree.specs.declared.tree.Expr.TheVariants.{Leaf, Compare}
use Rattle.graph_ast.specs.declared.catalog.Catalog.{Catalog}
use Rattle.graph_ast.specs.declared.catalog.Element.{Element}
use Rattle.graph_ast.specs.declared.catalog.Graph.{Graph}
use Rattle.graph_ast.specs.declared.checked.CheckedPath.{CheckedPath}
use Rattle.graph_ast.specs.declared.checked.CheckedQuery.{CheckedQuery}
use Rattle.graph_ast.specs.declared.checked.Output.{Output}
use Rattle.graph_ast.specs.declared.blocks.PathBlock.{PathBlock}
use Rattle.graph_ast.specs.Catalogs.{IsValidCatalog, IsValidGraph}
use Rattle.graph_ast.specs.Fits.{Fits}
use Rattle.graph_ast.specs.Lookups.{table_at}
use Rattle.graph_meaning.specs.Blocks.{path_blocks}
use Rattle.graph_meaning.specs.Choices.{Condition, singletons_of}
use Rattle.graph_meaning.proofs.BlockRows.{alternative_is}
use Rattle.sql_algebra.specs.declared.tree.Conjunct.TheVariants.{Plain, NotExists}
use Rattle.sql_algebra.specs.Printable.{is_name, value_is_printable, conjunct_step, select_step, select_is_printable}
use Rattle.sql_algebra.specs.Soundness.{Reach}
use Rattle.sql_algebra.proofs.Folds.{at_not_exists, on-Lit}
use Rattle.path_lowering.specs.declared.spots.Spot.{Spot}
use Rattle.path_lowering.specs.Spots.{element_at}
use Rattle.path_lowering.specs.Emitted.{leaf_of}
use Rattle.path_lowering.specs.Placed.{from_of}
use Rattle.path_lowering.specs.Blocks.{Laid, laid_spots, sources_of, block_conditions}
use Rattle.path_lowering.specs.Selects.{IsBlockLaid, select_for}
use Rattle.path_lowering.specs.Lowered.{Combining, IsCombining, IsLowerable}
use Rattle.path_lowering.specs.Shortest.{spot_at, last_place, one_column, key_across, ends_across, candidate_laid, candidate_select}
use Rattle.path_lowering.specs.Sound.{IsBuilding}
use Rattle.path_lowering.specs.SoundTexts.{spelled_step, IsSpelled, HasNames, IsSpelledQuery}
use Rattle.path_lowering.proofs.CandidateLaid.{candidate_is_laid}
use Rattle.path_lowering.proofs.Facts.{element_valid}
use Rattle.path_lowering.proofs.LaidLemmas.{belongs}
use Rattle.path_lowering.proofs.Lists.{append-nil}
use Rattle.path_lowering.proofs.SoundReach.{IsReached, reached}
use Rattle.path_lowering.proofs.SoundConditions.{append_fine}
use Rattle.path_lowering.proofs.SoundBlock.{map_fine}
use Rattle.path_lowering.proofs.SoundQuery.{some_alternative}
use Rattle.path_lowering.proofs.SoundShortest.{last_below, spot_there}
use Rattle.path_lowering.proofs.PrintableForms.{letter_is_name, pair_printable}
use Rattle.path_lowering.proofs.PrintableSelect.{column_printable, IsSpelledLaid, besides_has_text, select_has_text, conjunct_printable, plain_all}

module _ (catalog : Catalog) (graph : Graph) (sound : IsValidCatalog catalog) (valid : IsValidGraph catalog graph) (instance : InstanceRows) (fits : Fits catalog instance)
    (query : CheckedQuery)
    (ok : IsLowerable graph query) (combined : Combining) (combines : IsCombining combined) (builds : IsBuilding combined) (named : HasNames catalog) (well : IsSpelledQuery query)
    (path : CheckedPath) (among : IsIn path query.paths) (place : ℕ) (other : PathBlock) (there : IsIn other (path_blocks graph place path))
    (few : length other.elements < 2 ^ 32) where
  abbrev own : Laid
  own = candidate_laid catalog graph combined path other

  laid : IsBlockLaid catalog graph 83 (singletons_of path) (own ∷ []) None (one_column ∷ [])
  laid = candidate_is_laid catalog graph valid instance fits query ok combined combines path among place other there few

  abbrev reach : Reach
  reach = from_of (sources_of catalog graph 83 (laid_spots (own ∷ []))) (block_conditions catalog graph 83 (singletons_of path) (own ∷ []) None ++ []) ++ []

  own_some : 1 ≤ length own.spots
  own_some = subst (λ (s : List Spot). 1 ≤ length s) (append-nil own.spots) laid.some

  reached_own : (spot : Spot) → IsIn spot own.spots → IsReached catalog graph 83 reach spot
  reached_own spot h =
      reached catalog graph 83 (singletons_of path) (own ∷ []) None (one_column ∷ []) sound valid laid (block_conditions catalog graph 83 (singletons_of path) (own ∷ []) None
      ++ []) [] spot
      (subst (IsIn spot) (sym (append-nil own.spots)) h)

  made : (one : Laid) → IsIn one (own ∷ []) → IsSpelledLaid catalog graph 83 combined one
  made one (inr h) = absurd h
  made one (inl e) =
      subst (λ (l : Laid). IsSpelledLaid catalog graph 83 combined l) e (record {
        some = some_alternative graph path place other there (belongs catalog graph valid instance fits query ok path place other among there).shape;
        conditions = refl;
        scoped = λ choice k scoped l. well.conditions path among choice (alternative_is graph path place other there choice k).there scoped l;
      })

  no_condition : (c : Condition) → None ≡ Some c → IsSpelled c
  no_condition c h = cc

  one_spelled : (output : Output) → IsIn output (one_column ∷ []) → IsSpelled output.value
  one_spelled output (inr h) = absurd h
  one_spelled output (inl e) = subst (λ (o : Output). IsSpelled o.value) e (on-Lit spelled_step (Number (pos 1)))

  one_named : (output : Output) → IsIn output (one_column ∷ []) → is_name output.name ≡ true
  one_named output (inr h) = absurd h
  one_named output (inl e) = subst (λ (o : Output). is_name o.name ≡ true) e (letter_is_name 67 (omega arith))

  -- by itself it has a text
  pub alone_printable : select_is_printable (select_for catalog graph 83 (singletons_of path) (own ∷ []) None (one_column ∷ [])) ≡ true
  alone_printable =
      select_has_text catalog graph 83 (omega arith) (singletons_of path) (own ∷ []) None (one_column ∷ []) sound valid laid combined builds named made no_condition one_spelled
      (omega arith) one_named

  -- beside places of the SELECT around it
  module _ (outside : List Spot) (some : 1 ≤ length outside) (outer : Reach) (reached_out : (spot : Spot) → IsIn spot outside → IsReached catalog graph 65 outer spot) where
    key_printable : (a b : Spot) → IsIn a own.spots → IsIn b outside → element_at graph a ≡ element_at graph b → list_all value_is_printable (key_across catalog graph a b) ≡ true
    key_printable a b p q same =
        let key = (element_valid catalog graph valid a.kind a.element (reached_own a p).there).key in
        map_fine value_is_printable (λ column. Compare Equal (Leaf (leaf_of catalog graph 83 a column)) (Leaf (leaf_of catalog graph 65 b column))) (element_at graph a).key
        (λ column h. pair_printable Equal (Leaf (leaf_of catalog graph 83 a column)) (Leaf (leaf_of catalog graph 65 b column))
        (column_printable catalog graph 83 (omega arith) reach valid named own.spots reached_own a p column (key.places column h))
        (column_printable catalog graph 65 (omega arith) outer valid named outside reached_out b q column
        (subst (λ (e : Element). column < length (table_at catalog e.table).columns) same (key.places column h))))

    module _ (first : element_at graph (spot_at own.spots 0) ≡ element_at graph (spot_at outside 0))
        (last : element_at graph (spot_at own.spots (last_place own.spots)) ≡ element_at graph (spot_at outside (last_place outside))) where
      ends_printable : list_all value_is_printable (ends_across catalog graph own.spots outside) ≡ true
      ends_printable =
          append_fine value_is_printable (key_across catalog graph (spot_at own.spots 0) (spot_at outside 0))
          (key_across catalog graph (spot_at own.spots (last_place own.spots)) (spot_at outside (last_place outside)))
          (key_printable (spot_at own.spots 0) (spot_at outside 0) (spot_there own.spots 0 own_some) (spot_there outside 0 some) first)
          (key_printable (spot_at own.spots (last_place own.spots)) (spot_at outside (last_place outside))
          (spot_there own.spots (last_place own.spots) (last_below own.spots own_some))
          (spot_there outside (last_place outside) (last_below outside some)) last)

      pub candidate_printable : select_is_printable (candidate_select catalog graph own outside) ≡ true
      candidate_printable =
          besides_has_text catalog graph 83 (omega arith) (singletons_of path) (own ∷ []) None (one_column ∷ []) sound valid laid combined builds named made no_condition
          one_spelled (omega arith) one_named
          [] (map Plain (ends_across catalog graph own.spots outside)) refl (plain_all (ends_across catalog graph own.spots outside) ends_printable)

      -- so has NOT EXISTS of it
      pub none_printable : conjunct_printable (NotExists (candidate_select catalog graph own outside)) ≡ true
      none_printable = at_not_exists Bool Bool conjunct_step select_step (candidate_select catalog graph own outside) ∙ candidate_printable
