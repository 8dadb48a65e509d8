-- The conjuncts of a block's selectors are True exactly where each selector keeps the rows of its path.
use Rattle.std.proofs.Common.{◌≡◌, ℕ, ◌+◌, ◌<◌, ◌≤◌, ◌^◌, Bool, true, false, ◌&&◌, cond, List, [], ◌∷◌, ◌++◌, map, filter, flat_map, length, take, drop, None, Some}
use Rattle.std.proofs.Common.{refl, sym, ap, ap₂, ◌∙◌, inl, inr, arith, length-append}
use Rattle.std.specs.List.{AllZip, enumerate_from, list_all}
use Rattle.std.proofs.Math.ListN.{length-map}
use Rattle.std.proofs.Math.Seq.{take-append_seam, drop-append_seam}
use Rattle.std.proofs.lemmas.List.Folds.{list_all-append, list_all-map}
use Rattle.pgq_base.specs.declared.value.Value.{Value}
use Rattle.pgq_base.specs.Instances.{RowValues, InstanceRows}
use Rattle.multisets.specs.Bags.{IsIn}
use Rattle.multisets.proofs.Members.{in_append}
use Rattle.graph_ast.specs.declared.catalog.Catalog.{Catalog}
use Rattle.graph_ast.specs.declared.catalog.Graph.{Graph}
use Rattle.graph_ast.specs.declared.checked.CheckedPath.{CheckedPath}
use Rattle.graph_ast.specs.declared.checked.CheckedQuery.{CheckedQuery}
use Rattle.graph_ast.specs.declared.blocks.PathBlock.{PathBlock}
use Rattle.graph_ast.specs.Catalogs.{IsValidGraph, IsValidCatalog}
use Rattle.graph_ast.specs.Fits.{Fits}
use Rattle.graph_meaning.specs.Bindings.{bindings_in_mode, is_selected}
use Rattle.graph_meaning.specs.Blocks.{shapes, block_of, path_blocks}
use Rattle.graph_meaning.specs.Rows.{tables_of, tuples, binding_with}
use Rattle.graph_meaning.specs.Weights.{is_candidate}
use Rattle.graph_meaning.proofs.Members.{from_map, from_combinations, ArePicks}
use Rattle.sql_algebra.specs.declared.tree.ColumnLeaf.{ColumnLeaf}
use Rattle.sql_algebra.specs.declared.tree.Conjunct.{Conjunct}
use Rattle.sql_algebra.specs.declared.tree.Conjunct.TheVariants.{NotExists}
use Rattle.sql_algebra.specs.Tuples.{Tuple, leaf_value}
use Rattle.sql_algebra.specs.Meaning.{conjunct_holds}
use Rattle.path_lowering.specs.declared.spots.Kind.TheVariants.{Vertex}
use Rattle.path_lowering.specs.declared.spots.Spot.{Spot}
use Rattle.path_lowering.specs.Spots.{row_at, spots_along}
use Rattle.path_lowering.specs.Shown.{Shows}
use Rattle.path_lowering.specs.Blocks.{Laid, laid_spots}
use Rattle.path_lowering.specs.Lowered.{Combining, IsCombining, IsLowerable, lay, lay_all}
use Rattle.path_lowering.specs.Shortest.{candidate_select, candidate_laid, none_shorter}
use Rattle.path_lowering.proofs.Lists.{map-append}
use Rattle.path_lowering.proofs.AnswerLemmas.{Fitting, all_rows, items_split, picks_many, row_selected, all_selected, spots_many, tables_many}
use Rattle.path_lowering.proofs.OnePathShortest.{path_shortest}
use Rattle.shortest_lowering.specs.Selected.{shorter_of}

-- a path block knows the place of its path
block_place : (graph : Graph) (path : CheckedPath) (place : ℕ) (part : PathBlock) → IsIn part (path_blocks graph place path) → part.path ≡ place
block_place graph path place part h = let made = from_map (block_of graph path place) part (shapes graph path) h in sym (ap (λ (b : PathBlock). b.path) made.2)

-- the first of some rows that are put together, and those behind them
pub first_rows : {X : Type 0} (us vs : List X) (n : ℕ) → length us ≡ n → take n (us ++ vs) ≡ us
first_rows us vs n long = ap (λ m. take m (us ++ vs)) (sym long) ∙ take-append_seam us vs

pub last_rows : {X : Type 0} (us vs : List X) (n : ℕ) → length us ≡ n → drop n (us ++ vs) ≡ vs
last_rows us vs n long = ap (λ m. drop m (us ++ vs)) (sym long) ∙ drop-append_seam us vs

module _ (graph : Graph) (instance : InstanceRows) where
  -- of the rows of all places, each path's selector keeps those of its own
  abbrev pub keeps : List CheckedPath → List PathBlock → List RowValues → Bool
  keeps [] parts rows = true
  keeps (path ∷ paths) [] rows = true
  keeps (path ∷ paths) (p ∷ ps) rows = row_selected graph instance path p (take (length p.elements) rows) && keeps paths ps (drop (length p.elements) rows)

  pub keeps_all : (paths : List CheckedPath) (parts : List PathBlock) (rows : List (List RowValues)) → AllZip (Fitting graph instance) paths parts
      → ArePicks rows (map (λ part. tuples graph instance part.elements) parts) → keeps paths parts (all_rows rows) ≡ all_selected graph instance paths parts rows
  keeps_all [] parts rows are h = refl
  keeps_all (path ∷ paths) [] rows are h = refl
  keeps_all (path ∷ paths) (p ∷ ps) [] are h = absurd h
  keeps_all (path ∷ paths) (p ∷ ps) (r ∷ rs) are h =
      let long : length r ≡ length p.elements =
      picks_many graph instance r (tables_of graph instance p.elements) (from_combinations r (tables_of graph instance p.elements) h.0)
      ∙ tables_many graph instance p.elements are.0.numbers in
      ap₂ (λ a b. a && b)
      (ap (row_selected graph instance path p) (first_rows r (all_rows rs) (length p.elements) long))
      (ap (keeps paths ps) (last_rows r (all_rows rs) (length p.elements) long) ∙ keeps_all paths ps rs are.1 h.1)

module _ (catalog : Catalog) (graph : Graph) (instance : InstanceRows) (combined : Combining) where
  abbrev all_hold : Tuple → List Conjunct → Bool
  all_hold tuple conjuncts = list_all (λ conjunct. conjunct_holds catalog instance conjunct tuple) conjuncts

  shows_among : (env : ColumnLeaf → Value) (rows : List RowValues) (some all : List Spot) → ((spot : Spot) → IsIn spot some → IsIn spot all)
      → Shows catalog graph instance 65 env rows all → Shows catalog graph instance 65 env rows some
  shows_among env rows some all among shows = record {
    elements = λ spot h. shows.elements spot (among spot h);
    members = λ spot h. shows.members spot (among spot h);
    columns = λ spot h. shows.columns spot (among spot h);
  }

  module _ (sound : IsValidCatalog catalog) (graph_in : IsIn graph catalog.graphs) (fits : Fits catalog instance) (valid : IsValidGraph catalog graph)
      (query : CheckedQuery) (ok : IsLowerable graph query) (combines : IsCombining combined) (tuple : Tuple) (rows : List RowValues) where
    abbrev own_rows : List Spot → List RowValues
    own_rows spots = map (row_at rows) spots

    -- one path: no selector keeps all and adds no conjunct
    one_path : (path : CheckedPath) → IsIn path query.paths → (place : ℕ) (part : PathBlock) → IsIn part (path_blocks graph place path) → length part.elements < 2 ^ 32
        → (items : List ℕ) → length part.elements ≤ length items
        → Shows catalog graph instance 65 (leaf_value catalog tuple) rows (spots_along Vertex part.elements items)
        → all_hold tuple (shorter_of catalog graph combined (lay catalog graph 65 combined path part items))
        ≡ row_selected graph instance path part (own_rows (spots_along Vertex part.elements items))
    one_path path among place part part_in few items enough shown = go path.all_shortest
      where
        outside : List Spot
        outside = spots_along Vertex part.elements items

        stays : PathBlock → Bool
        stays other = conjunct_holds catalog instance (NotExists (candidate_select catalog graph (candidate_laid catalog graph combined path other) outside)) tuple

        go : (b : Bool) → all_hold tuple (cond b (none_shorter catalog graph combined path part outside) [])
            ≡ is_selected (cond b (Some 1) None) (bindings_in_mode graph instance path) (binding_with graph part (own_rows outside))
        go false = refl
        go true =
            list_all-map (λ conjunct. conjunct_holds catalog instance conjunct tuple)
            (λ other. NotExists (candidate_select catalog graph (candidate_laid catalog graph combined path other) outside))
            (filter (is_candidate part) (path_blocks graph part.path path))
            ∙ ap (λ n. list_all stays (filter (is_candidate part) (path_blocks graph n path))) (block_place graph path place part part_in)
            ∙ path_shortest catalog graph instance sound graph_in fits valid query ok combined combines path among place part part_in few items enough tuple rows shown

    abbrev laid : List CheckedPath → List PathBlock → List ℕ → List Laid
    laid = lay_all catalog graph 65 combined

    -- all paths of a block
    pub all_paths : (n : ℕ) (paths : List CheckedPath) (parts : List PathBlock) (items : List ℕ) → ((path : CheckedPath) → IsIn path paths → IsIn path query.paths)
        → AllZip IsIn parts (map (λ (n : ℕ × CheckedPath). path_blocks graph n.0 n.1) (enumerate_from n paths))
        → length items ≡ length (flat_map (λ part. part.elements) parts) → length (flat_map (λ part. part.elements) parts) < 2 ^ 32
        → Shows catalog graph instance 65 (leaf_value catalog tuple) rows (laid_spots (laid paths parts items))
        → all_hold tuple (flat_map (shorter_of catalog graph combined) (laid paths parts items)) ≡ keeps graph instance paths parts (own_rows (laid_spots (laid paths parts items)))
    all_paths n [] parts items among are long few shown = refl
    all_paths n (path ∷ paths) [] items among are long few shown = refl
    all_paths n (path ∷ paths) (p ∷ ps) items among are long few shown =
        let split = items_split graph instance catalog 65 combined p ps items long in
        let own = spots_along Vertex p.elements items in
        let more = drop (length p.elements) items in
        let others = laid_spots (laid paths ps more) in
        let size : length (own_rows own) ≡ length p.elements = length-map own (row_at rows) ∙ spots_many Vertex p.elements items split.0 in
        let sum = length-append p.elements (flat_map (λ (part : PathBlock). part.elements) ps) in
        list_all-append (λ conjunct. conjunct_holds catalog instance conjunct tuple) (shorter_of catalog graph combined (lay catalog graph 65 combined path p items))
        (flat_map (shorter_of catalog graph combined) (laid paths ps more))
        ∙ ap₂ (λ a b. a && b)
        (one_path path (among path (inl refl)) n p are.0 (omega (arith, sum, few)) items split.0
        (shows_among (leaf_value catalog tuple) rows own (own ++ others) (λ spot h. in_append spot own others (inl h)) shown)
        ∙ sym (ap (row_selected graph instance path p)
        (ap (take (length p.elements)) (map-append (row_at rows) own others) ∙ first_rows (own_rows own) (own_rows others) (length p.elements) size)))
        (all_paths (n + 1) paths ps more (λ q h. among q (inr h)) are.1 split.1 (omega (arith, sum, few))
        (shows_among (leaf_value catalog tuple) rows others (own ++ others) (λ spot h. in_append spot own others (inr h)) shown)
        ∙ sym (ap (keeps graph instance paths ps)
        (ap (drop (length p.elements)) (map-append (row_at rows) own others) ∙ last_rows (own_rows own) (own_rows others) (length p.elements) size)))
