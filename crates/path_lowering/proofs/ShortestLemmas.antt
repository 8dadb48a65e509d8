-- When NOT EXISTS of a candidate is True.
use Rattle.std.proofs.Common.{◌≡◌, ℕ, ◌<◌, ◌≤◌, Bool, true, false, not, ◌&&◌, ◌||◌, cond, List, [], ◌∷◌, map, filter, length, refl, sym, ap, ap₂, subst, ◌∙◌, inl, inr, arith, None}
use Rattle.std.specs.List.{list_all, list_any}
use Rattle.std.proofs.lemmas.List.{get_or-map}
use Rattle.std.proofs.lemmas.List.Folds.{list_all-append}
use Rattle.pgq_base.specs.Instances.{RowValues, InstanceRows, value_at, values_at, same_values}
use Rattle.multisets.specs.Bags.{IsIn}
use Rattle.expr_tree.specs.Meaning.{compare_by}
use Rattle.expr_tree.specs.declared.tree.Comparison.TheVariants.{Equal}
use Rattle.expr_tree.specs.declared.tree.Expr.TheVariants.{Leaf, Compare}
use Rattle.graph_ast.specs.declared.catalog.Catalog.{Catalog}
use Rattle.graph_ast.specs.declared.catalog.Graph.{Graph}
use Rattle.graph_ast.specs.Catalogs.{IsValidGraph, IsValidCatalog}
use Rattle.graph_ast.specs.Fits.{Fits, is_null}
use Rattle.graph_ast.specs.Lookups.{table_at}
use Rattle.graph_meaning.specs.Lists.{combinations}
use Rattle.graph_meaning.specs.View.{rows_of}
use Rattle.graph_meaning.specs.Choices.{singletons_of}
use Rattle.sql_algebra.specs.declared.tree.Conjunct.TheVariants.{Plain, NotExists}
use Rattle.sql_algebra.specs.Tuples.{Tuple, leaf_value, is_true, holds}
use Rattle.sql_algebra.specs.Meaning.{has_none, conjunct_holds}
use Rattle.sql_algebra.proofs.Folds.{plain_means, not_exists_means}
use Rattle.path_lowering.specs.declared.spots.Kind.TheVariants.{Vertex}
use Rattle.path_lowering.specs.declared.spots.Spot.{Spot}
use Rattle.path_lowering.specs.Spots.{element_at, row_at}
use Rattle.path_lowering.specs.Emitted.{SqlCondition, leaf_of}
use Rattle.path_lowering.specs.Shown.{Shows}
use Rattle.path_lowering.specs.Blocks.{Laid, laid_spots}
use Rattle.path_lowering.specs.Selects.{IsUnder, IsBlockLaid, passes_block, block_row}
use Rattle.path_lowering.specs.Shortest.{spot_at, last_place, one_column, key_across, ends_across, candidate_select, has_key_of, has_ends_of}
use Rattle.path_lowering.proofs.Truths.{true_Compare}
use Rattle.path_lowering.proofs.Values.{equals, same_cons}
use Rattle.path_lowering.proofs.Lists.{append-nil}
use Rattle.path_lowering.proofs.EdgeLemmas.{spot_valid, key_known}
use Rattle.path_lowering.proofs.Facts.{in_at}
use Rattle.path_lowering.proofs.Theorems.{block_besides}

pub none_of : {A B : Type 0} (f : A → B) (p : A → Bool) (xs : List A) → has_none (map f (filter p xs)) ≡ not (list_any p xs)
none_of f p [] = refl
none_of {A} f p (x ∷ xs) = go (p x) (none_of f p xs)
  where
    go : (b : Bool) → has_none (map f (filter p xs)) ≡ not (list_any p xs) → has_none (map f (cond b (x ∷ filter p xs) (filter p xs))) ≡ not (b || list_any p xs)
    go true h = refl
    go false h = h

module _ (catalog : Catalog) (graph : Graph) (instance : InstanceRows) (sound : IsValidCatalog catalog) (graph_in : IsIn graph catalog.graphs) (fits : Fits catalog instance) where
  valid : IsValidGraph catalog graph
  valid = sound.graphs graph graph_in

  -- places outside, and what an outer tuple has there
  module _ (outer : Tuple) (outer_rows : List RowValues) (outside : List Spot) (shown : Shows catalog graph instance 65 (leaf_value catalog outer) outer_rows outside) where
    module _ (tuple : Tuple) (rows : List RowValues) (own : List Spot) (shows : Shows catalog graph instance 83 (leaf_value catalog tuple) rows own)
        (under : IsUnder catalog 83 outer tuple) where
      across : (a b : Spot) → IsIn a own → IsIn b outside → element_at graph b ≡ element_at graph a
          → list_all (holds catalog tuple) (key_across catalog graph a b) ≡ same_values (values_at (element_at graph a).key (row_at rows a))
          (values_at (element_at graph a).key (row_at outer_rows b))
      across a b p q same =
          go (element_at graph a).key (λ c h. (spot_valid catalog graph instance 83 (leaf_value catalog tuple) rows own valid fits shows a p).key.places c h)
          (λ c h. key_known catalog graph instance 65 (leaf_value catalog outer) outer_rows outside valid fits shown b q c (subst (λ e. IsIn c e.key) (sym same) h))
        where
          column_is : (c : ℕ) → c < length (table_at catalog (element_at graph a).table).columns → leaf_value catalog tuple (leaf_of catalog graph 65 b c)
              ≡ value_at (row_at outer_rows b) c
          column_is c h =
              under.kept (leaf_of catalog graph 65 b c) 65 b.item refl (λ e. absurd (omega (arith, e)))
              ∙ shown.columns b q c (subst (λ e. c < length (table_at catalog e.table).columns) (sym same) h)

          go : (cs : List ℕ) → ((c : ℕ) → IsIn c cs → c < length (table_at catalog (element_at graph a).table).columns)
              → ((c : ℕ) → IsIn c cs → is_null (value_at (row_at outer_rows b) c) ≡ false)
              → list_all (holds catalog tuple) (map (λ column. Compare Equal (Leaf (leaf_of catalog graph 83 a column)) (Leaf (leaf_of catalog graph 65 b column))) cs)
              ≡ same_values (values_at cs (row_at rows a)) (values_at cs (row_at outer_rows b))
          go [] there known = refl
          go (c ∷ cs) there known =
              ap₂ (λ s t. s && t)
              (true_Compare (leaf_value catalog tuple) Equal (leaf_of catalog graph 83 a c) (leaf_of catalog graph 65 b c)
              ∙ ap₂ (λ v w. is_true (compare_by Equal v w)) (shows.columns a p c (there c (inl refl))) (column_is c (there c (inl refl)))
              ∙ equals (value_at (row_at rows a) c) (value_at (row_at outer_rows b) c) (known c (inl refl)))
              (go cs (λ d k. there d (inr k)) (λ d k. known d (inr k)))
              ∙ sym (same_cons (value_at (row_at rows a) c) (value_at (row_at outer_rows b) c) (values_at cs (row_at rows a)) (values_at cs (row_at outer_rows b)))

    plain_all : (tuple : Tuple) (conditions : List SqlCondition) → list_all (λ conjunct. conjunct_holds catalog instance conjunct tuple) (map Plain conditions)
        ≡ list_all (holds catalog tuple) conditions
    plain_all tuple [] = refl
    plain_all tuple (c ∷ cs) = ap₂ (λ a b. a && b) (ap (λ f. f tuple) (plain_means catalog instance c)) (plain_all tuple cs)

    -- NOT EXISTS of a candidate is True exactly where no rows of its places pass and have the ends
    module _ (own : Laid) (laid : IsBlockLaid catalog graph 83 (singletons_of own.path) (own ∷ []) None (one_column ∷ [])) (some : 1 ≤ length own.spots)
        (some_outside : 1 ≤ length outside)
        (first_same : element_at graph (spot_at outside 0) ≡ element_at graph (spot_at own.spots 0))
        (last_same : element_at graph (spot_at outside (last_place outside)) ≡ element_at graph (spot_at own.spots (last_place own.spots))) where
      abbrev passes : List RowValues → Bool
      passes rows = passes_block graph instance (singletons_of own.path) (own ∷ []) None rows

      abbrev ends : List RowValues → Bool
      ends = has_ends_of graph own.spots (row_at outer_rows (spot_at outside 0)) (row_at outer_rows (spot_at outside (last_place outside)))

      abbrev no_spot : Spot
      no_spot = record { kind = Vertex; element = 0; item = 0 }

      key_at : (tuple : Tuple) (rows : List RowValues) → Shows catalog graph instance 83 (leaf_value catalog tuple) rows own.spots → IsUnder catalog 83 outer tuple
          → (k l : ℕ) → k < length own.spots → l < length outside → element_at graph (spot_at outside l) ≡ element_at graph (spot_at own.spots k)
          → list_all (holds catalog tuple) (key_across catalog graph (spot_at own.spots k) (spot_at outside l))
          ≡ has_key_of graph (spot_at own.spots k) k (row_at outer_rows (spot_at outside l)) (map (row_at rows) own.spots)
      key_at tuple rows shows under k l below low same =
          across tuple rows own.spots shows under (spot_at own.spots k) (spot_at outside l) (in_at own.spots k no_spot below) (in_at outside l no_spot low) same
          ∙ ap (λ row. same_values (values_at (element_at graph (spot_at own.spots k)).key row)
          (values_at (element_at graph (spot_at own.spots k)).key (row_at outer_rows (spot_at outside l))))
          (sym (get_or-map (row_at rows) own.spots k no_spot [] below))

      pub candidate_means : conjunct_holds catalog instance (NotExists (candidate_select catalog graph own outside)) outer
          ≡ not (list_any (λ rows. passes rows && ends rows) (combinations (map (λ spot. rows_of instance (element_at graph spot)) (laid_spots (own ∷ [])))))
      candidate_means =
          ap (λ f. f outer) (not_exists_means catalog instance (candidate_select catalog graph own outside))
          ∙ ap has_none (block_besides catalog graph instance 83 (singletons_of own.path) (own ∷ []) None (one_column ∷ []) sound graph_in fits laid []
          (map Plain (ends_across catalog graph own.spots outside)) ends outer say)
          ∙ none_of (block_row graph instance (own ∷ []) (one_column ∷ [])) (λ rows. passes rows && ends rows)
          (combinations (map (λ spot. rows_of instance (element_at graph spot)) (laid_spots (own ∷ []))))
        where
          say_own : (rows : List RowValues) (tuple : Tuple) → Shows catalog graph instance 83 (leaf_value catalog tuple) rows own.spots → IsUnder catalog 83 outer tuple
              → list_all (λ conjunct. conjunct_holds catalog instance conjunct tuple) (map Plain (ends_across catalog graph own.spots outside)) ≡ ends (map (row_at rows) own.spots)
          say_own rows tuple shows under =
              plain_all tuple (ends_across catalog graph own.spots outside)
              ∙ list_all-append (holds catalog tuple) (key_across catalog graph (spot_at own.spots 0) (spot_at outside 0))
              (key_across catalog graph (spot_at own.spots (last_place own.spots)) (spot_at outside (last_place outside)))
              ∙ ap₂ (λ a b. a && b) (key_at tuple rows shows under 0 0 some some_outside first_same)
              (key_at tuple rows shows under (last_place own.spots) (last_place outside) (omega (arith, some)) (omega (arith, some_outside)) last_same)

          say : Rattle.path_lowering.specs.Selects.SayBesides catalog graph instance 83 (laid_spots (own ∷ [])) outer []
              (map Plain (ends_across catalog graph own.spots outside)) ends
          say = subst (λ spots. Rattle.path_lowering.specs.Selects.SayBesides catalog graph instance 83 spots outer [] (map Plain (ends_across catalog graph own.spots outside))
              ends) (sym (append-nil own.spots)) say_own
