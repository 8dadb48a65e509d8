-- NOT EXISTS of a candidate is sound within the reach of the SELECT around it.
use Rattle.std.proofs.Common.{◌≡◌, ◌≢◌, ℕ, suc, ◌<◌, ◌≤◌, ◌^◌, true, false, ◌||◌, not, cond, List, [], ◌∷◌, ◌++◌, map, length, refl, sym, ap, ap₂, subst, ◌∙◌, inl, inr, None}
use Rattle.std.proofs.Common.{Some, bytes_eq, arith}
use Rattle.std.specs.Prelude.{find, pos}
use Rattle.std.specs.List.{AllByRecursion, list_all}
use Rattle.std.proofs.lemmas.Bool.{and_parts}
use Rattle.pgq_base.specs.declared.value.Value.TheVariants.{Number}
use Rattle.pgq_base.specs.Instances.{InstanceRows}
use Rattle.multisets.specs.Bags.{IsIn}
use Rattle.expr_tree.specs.declared.tree.Comparison.TheVariants.{Equal}
use Rattle.expr_tree.specs.declared.tree.Expr.TheVariants.{Leaf, Compare}
use Rattle.expr_tree.specs.Classes.{judged_step}
use Rattle.expr_tree.specs.Leaves.{leaves_step}
use Rattle.graph_ast.specs.declared.catalog.Catalog.{Catalog}
use Rattle.graph_ast.specs.declared.catalog.Element.{Element}
use Rattle.graph_ast.specs.declared.catalog.Graph.{Graph}
use Rattle.graph_ast.specs.declared.checked.CheckedPath.{CheckedPath}
use Rattle.graph_ast.specs.declared.checked.CheckedQuery.{CheckedQuery}
use Rattle.graph_ast.specs.declared.checked.Output.{Output}
use Rattle.graph_ast.specs.declared.blocks.PathBlock.{PathBlock}
use Rattle.graph_ast.specs.Catalogs.{IsValidCatalog, IsValidGraph}
use Rattle.graph_ast.specs.Fits.{Fits}
use Rattle.graph_ast.specs.Lookups.{table_at, column_at}
use Rattle.graph_ast.specs.Types.{class_of_type}
use Rattle.graph_meaning.specs.Blocks.{path_blocks}
use Rattle.graph_meaning.specs.Choices.{Condition, singletons_of}
use Rattle.graph_meaning.proofs.BlockRows.{alternative_is}
use Rattle.sql_algebra.specs.declared.tree.Conjunct.TheVariants.{Plain, NotExists}
use Rattle.sql_algebra.specs.declared.tree.FromItem.{FromItem}
use Rattle.sql_algebra.specs.Soundness.{Reach, is_in, differ_from, condition_is_sound, select_is_sound}
use Rattle.sql_algebra.proofs.Folds.{conjunct_is_sound, plain_sound, not_exists_sound, on-Lit}
use Rattle.path_lowering.specs.declared.spots.Spot.{Spot}
use Rattle.path_lowering.specs.declared.spots.Kind.TheVariants.{Vertex}
use Rattle.path_lowering.specs.Spots.{element_at}
use Rattle.path_lowering.specs.Emitted.{SqlCondition, alias_of, leaf_of}
use Rattle.path_lowering.specs.Placed.{from_of}
use Rattle.path_lowering.specs.Blocks.{Laid, laid_spots, sources_of, block_conditions}
use Rattle.path_lowering.specs.Selects.{IsBlockLaid, select_for}
use Rattle.path_lowering.specs.Lowered.{Combining, IsCombining, IsLowerable}
use Rattle.path_lowering.specs.Shortest.{spot_at, last_place, one_column, key_across, ends_across, candidate_laid, candidate_select}
use Rattle.path_lowering.specs.Sound.{class_is, HasItsClass, IsSoundExpression, IsSoundQuery, IsBuilding}
use Rattle.path_lowering.proofs.CandidateLaid.{candidate_is_laid}
use Rattle.path_lowering.proofs.Facts.{in_at, element_valid}
use Rattle.path_lowering.proofs.LaidLemmas.{belongs}
use Rattle.path_lowering.proofs.Lists.{append-nil}
use Rattle.path_lowering.proofs.PlacingLemmas.{and_join}
use Rattle.path_lowering.proofs.SourceLemmas.{items_numbered}
use Rattle.path_lowering.proofs.TupleLemmas.{AreNumbered, names_differ}
use Rattle.path_lowering.proofs.SoundForms.{pair_sound}
use Rattle.path_lowering.proofs.SoundReach.{IsReached, column_sound, reached, aliases_apart}
use Rattle.path_lowering.proofs.SoundConditions.{append_fine}
use Rattle.path_lowering.proofs.SoundBlock.{map_fine}
use Rattle.path_lowering.proofs.SoundSelect.{IsSoundlyMade, besides_is}
use Rattle.path_lowering.proofs.SoundSelect.{select_is as alone_is}
use Rattle.path_lowering.proofs.SoundQuery.{some_alternative}

-- aliases of two letters differ
letters_differ : (letter other m n : ℕ) → letter ≢ other → bytes_eq (alias_of letter m) (alias_of other n) ≡ false
letters_differ letter other m n h = names_differ (alias_of letter m) (alias_of other n) (λ e. let k : letter ≡ other = cc in h k)

-- items of another letter are passed over
found_behind : (letter other at number : ℕ) (items : List FromItem) (outer : Reach) → letter ≢ other → AreNumbered letter at items
    → find (λ item. bytes_eq item.alias (alias_of other number)) (items ++ outer) ≡ find (λ item. bytes_eq item.alias (alias_of other number)) outer
found_behind letter other at number [] outer h numbered = refl
found_behind letter other at number (item ∷ items) outer h numbered =
    ap (λ b. cond b (Some item) (find (λ i. bytes_eq i.alias (alias_of other number)) (items ++ outer)))
    (ap (λ a. bytes_eq a (alias_of other number)) numbered.0 ∙ letters_differ letter other at number h)
    ∙ found_behind letter other (suc at) number items outer h numbered.1

none_of_letter : (letter other at m : ℕ) (items : List FromItem) → other ≢ letter → AreNumbered other at items → is_in (alias_of letter m) (map (λ item. item.alias) items) ≡ false
none_of_letter letter other at m [] h numbered = refl
none_of_letter letter other at m (item ∷ items) h numbered =
    ap₂ (λ a b. a || b) (ap (λ a. bytes_eq a (alias_of letter m)) numbered.0 ∙ letters_differ other letter at m h) (none_of_letter letter other (suc at) m items h numbered.1)

lettered : (letter at : ℕ) (items : List FromItem) → AreNumbered letter at items → (name : List ℕ) → IsIn name (map (λ item. item.alias) items) → (m : ℕ)
    × (alias_of letter m ≡ name)
lettered letter at [] numbered name h = absurd h
lettered letter at (item ∷ items) numbered name (inl e) = (at, sym numbered.0 ∙ e)
lettered letter at (item ∷ items) numbered name (inr h) = lettered letter (suc at) items numbered.1 name h

differ_both : (others names : List (List ℕ)) → differ_from [] names ≡ true → ((name : List ℕ) → IsIn name names → is_in name others ≡ false) → differ_from others names ≡ true
differ_both others [] h k = refl
differ_both others (n ∷ ns) h k =
    let p = and_parts (not (is_in n ns)) (differ_from [] ns) h in and_join _ _ (ap not (k n (inl refl))) (and_join _ _ p.0 (differ_both others ns p.1 (λ m l. k m (inr l))))

plain_all : (catalog : Catalog) (reach : Reach) (cs : List SqlCondition) → list_all (condition_is_sound catalog reach) cs ≡ true
    → list_all (λ conjunct. conjunct reach) (map (conjunct_is_sound catalog) (map Plain cs)) ≡ true
plain_all catalog reach [] h = refl
plain_all catalog reach (c ∷ cs) h =
    let p = and_parts (condition_is_sound catalog reach c) (list_all (condition_is_sound catalog reach) cs) h in
    and_join _ _ (ap (λ f. f reach) (plain_sound catalog c) ∙ p.0) (plain_all catalog reach cs p.1)

module _ (catalog : Catalog) (graph : Graph) (reach : Reach) (sound : IsValidCatalog catalog) (valid : IsValidGraph catalog graph) where
  -- key equalities of two places of one element, under two letters
  key_sound : (own other : Spot) → IsReached catalog graph 83 reach own → IsReached catalog graph 65 reach other → element_at graph own ≡ element_at graph other
      → list_all (condition_is_sound catalog reach) (key_across catalog graph own other) ≡ true
  key_sound own other p q same =
      let ok = element_valid catalog graph valid own.kind own.element p.there in
      map_fine (condition_is_sound catalog reach) (λ column. Compare Equal (Leaf (leaf_of catalog graph 83 own column)) (Leaf (leaf_of catalog graph 65 other column)))
      (element_at graph own).key
      (λ column h. pair_sound catalog reach Equal (leaf_of catalog graph 83 own column) (leaf_of catalog graph 65 other column)
      (column_sound catalog graph 83 reach sound valid own p column (ok.key.places column h))
      (column_sound catalog graph 65 reach sound valid other q column (subst (λ (e : Element). column < length (table_at catalog e.table).columns) same (ok.key.places column h)))
      (ap (λ (e : Element). class_of_type (column_at (table_at catalog e.table) column).kind) same))

pub last_below : (spots : List Spot) → 1 ≤ length spots → last_place spots < length spots
last_below spots h = omega (arith, h)

pub spot_there : (spots : List Spot) (place : ℕ) → place < length spots → IsIn (spot_at spots place) spots
spot_there spots place h = in_at spots place (record { kind = Vertex; element = 0; item = 0 }) h

module _ (catalog : Catalog) (graph : Graph) (sound : IsValidCatalog catalog) (valid : IsValidGraph catalog graph) (instance : InstanceRows) (fits : Fits catalog instance)
    (query : CheckedQuery)
    (ok : IsLowerable graph query) (combined : Combining) (combines : IsCombining combined) (builds : IsBuilding combined) (well : IsSoundQuery catalog graph query)
    (path : CheckedPath) (among : IsIn path query.paths) (place : ℕ) (other : PathBlock) (there : IsIn other (path_blocks graph place path))
    (few : length other.elements < 2 ^ 32) where
  abbrev own : Laid
  own = candidate_laid catalog graph combined path other

  laid : IsBlockLaid catalog graph 83 (singletons_of path) (own ∷ []) None (one_column ∷ [])
  laid = candidate_is_laid catalog graph valid instance fits query ok combined combines path among place other there few

  made : (one : Laid) → IsIn one (own ∷ []) → IsSoundlyMade catalog graph 83 combined one
  made one (inr h) = absurd h
  made one (inl e) =
      subst (λ (l : Laid). IsSoundlyMade catalog graph 83 combined l) e (record {
        some = some_alternative graph path place other there (belongs catalog graph valid instance fits query ok path place other among there).shape;
        conditions = refl;
        scoped = λ choice k scoped l. well.conditions path among choice (alternative_is graph path place other there choice k).there scoped l;
      })

  no_condition : (c : Condition) → None ≡ Some c → Rattle.path_lowering.specs.Sound.IsSoundCondition catalog graph c
  no_condition c h = cc

  one_sound : (output : Output) → IsIn output (one_column ∷ []) → IsSoundExpression catalog graph output.value
  one_sound output (inr h) = absurd h
  one_sound output (inl e) =
      subst (λ (o : Output). IsSoundExpression catalog graph o.value) e (record {
        leaves = subst (AllByRecursion (HasItsClass catalog graph)) (sym (on-Lit leaves_step (Number (pos 1)))) tt;
        well_classed = ap (λ j. j.kept) (on-Lit (judged_step class_is) (Number (pos 1)));
      })

  -- by itself it is sound
  pub alone_sound : select_is_sound catalog (select_for catalog graph 83 (singletons_of path) (own ∷ []) None (one_column ∷ [])) [] ≡ true
  alone_sound =
      alone_is catalog graph 83 (singletons_of path) (own ∷ []) None (one_column ∷ []) sound valid laid combined builds made no_condition one_sound ((λ h. h), tt)

  -- within the reach of the SELECT around it
  module _ (outside : List Spot) (some : 1 ≤ length outside) (outer : Reach) (numbered : AreNumbered 65 0 outer)
      (reached_out : (spot : Spot) → IsIn spot outside → IsReached catalog graph 65 outer spot) where
    abbrev conditions : List SqlCondition
    conditions = block_conditions catalog graph 83 (singletons_of path) (own ∷ []) None ++ []

    abbrev items : List FromItem
    items = from_of (sources_of catalog graph 83 (laid_spots (own ∷ []))) conditions

    abbrev reach : Reach
    reach = items ++ outer

    own_numbered : AreNumbered 83 0 items
    own_numbered = items_numbered catalog graph 83 (laid_spots (own ∷ [])) conditions

    own_some : 1 ≤ length own.spots
    own_some = subst (λ (s : List Spot). 1 ≤ length s) (append-nil own.spots) laid.some

    reached_own : (spot : Spot) → IsIn spot own.spots → IsReached catalog graph 83 reach spot
    reached_own spot h =
        reached catalog graph 83 (singletons_of path) (own ∷ []) None (one_column ∷ []) sound valid laid conditions outer spot (subst (IsIn spot) (sym (append-nil own.spots)) h)

    reached_other : (spot : Spot) → IsIn spot outside → IsReached catalog graph 65 reach spot
    reached_other spot h =
        let out = reached_out spot h in
        record {
          there = out.there;
          low = out.low;
          item = out.item;
          found = found_behind 83 65 0 spot.item items outer (λ e. absurd (omega (arith, e))) own_numbered
              ∙ out.found;
          table = out.table;
        }

    module _ (first : element_at graph (spot_at own.spots 0) ≡ element_at graph (spot_at outside 0))
        (last : element_at graph (spot_at own.spots (last_place own.spots)) ≡ element_at graph (spot_at outside (last_place outside))) where
      ends_sound : list_all (condition_is_sound catalog reach) (ends_across catalog graph own.spots outside) ≡ true
      ends_sound =
          append_fine (condition_is_sound catalog reach) (key_across catalog graph (spot_at own.spots 0) (spot_at outside 0))
          (key_across catalog graph (spot_at own.spots (last_place own.spots)) (spot_at outside (last_place outside)))
          (key_sound catalog graph reach sound valid (spot_at own.spots 0) (spot_at outside 0) (reached_own (spot_at own.spots 0) (spot_there own.spots 0 own_some))
          (reached_other (spot_at outside 0) (spot_there outside 0 some)) first)
          (key_sound catalog graph reach sound valid (spot_at own.spots (last_place own.spots)) (spot_at outside (last_place outside))
          (reached_own (spot_at own.spots (last_place own.spots)) (spot_there own.spots (last_place own.spots) (last_below own.spots own_some)))
          (reached_other (spot_at outside (last_place outside)) (spot_there outside (last_place outside) (last_below outside some))) last)

      pub candidate_sound : select_is_sound catalog (candidate_select catalog graph own outside) outer ≡ true
      candidate_sound =
          besides_is catalog graph 83 (singletons_of path) (own ∷ []) None (one_column ∷ []) sound valid laid combined builds made no_condition one_sound
          [] (map Plain (ends_across catalog graph own.spots outside)) outer
          (differ_both (map (λ item. item.alias) outer) (map (λ item. item.alias) items)
          (aliases_apart catalog graph 83 (singletons_of path) (own ∷ []) None (one_column ∷ []) sound valid laid conditions)
          (λ name h. let m = lettered 83 0 items own_numbered name h in
          ap (λ n. is_in n (map (λ item. item.alias) outer)) (sym m.1) ∙ none_of_letter 83 65 0 m.0 outer (λ e. absurd (omega (arith, e))) numbered))
          refl (plain_all catalog reach (ends_across catalog graph own.spots outside) ends_sound) ((λ h. h), tt)

      -- so NOT EXISTS of it is a sound conjunct of the SELECT around it
      pub none_sound : conjunct_is_sound catalog (NotExists (candidate_select catalog graph own outside)) outer ≡ true
      none_sound = ap (λ f. f outer) (not_exists_sound catalog (candidate_select catalog graph own outside)) ∙ candidate_sound
