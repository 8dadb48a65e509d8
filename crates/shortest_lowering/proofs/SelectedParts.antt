-- The paths of a graph block that is laid, and the candidates of each: what their places have in common.
use Rattle.std.proofs.Common.{◌≡◌, ℕ, ◌-◌, ◌<◌, ◌≤◌, ◌^◌, Bool, true, false, cond, List, [], ◌∷◌, ◌++◌, map, flat_map, filter, drop, length, slice_index_or, refl, sym, ap, subst}
use Rattle.std.proofs.Common.{◌∙◌, inl, inr, length-append, arith}
use Rattle.std.specs.List.{AllZip, list_all}
use Rattle.std.proofs.lemmas.Bool.{eqb-true}
use Rattle.std.proofs.lemmas.Bool.Decides.{Decides-ltb}
use Rattle.std.proofs.lemmas.List.Folds.{list_all-map}
use Rattle.std.proofs.lemmas.List.FromFn.{length-range_with_len}
use Rattle.pgq_base.specs.Instances.{InstanceRows}
use Rattle.multisets.specs.Bags.{IsIn}
use Rattle.graph_ast.specs.declared.catalog.Catalog.{Catalog}
use Rattle.graph_ast.specs.declared.catalog.Graph.{Graph}
use Rattle.graph_ast.specs.declared.checked.CheckedPath.{CheckedPath}
use Rattle.graph_ast.specs.declared.checked.CheckedQuery.{CheckedQuery}
use Rattle.graph_ast.specs.declared.blocks.Block.{Block}
use Rattle.graph_ast.specs.declared.blocks.PathBlock.{PathBlock}
use Rattle.graph_ast.specs.Catalogs.{IsValidGraph}
use Rattle.graph_ast.specs.Fits.{Fits}
use Rattle.graph_ast.specs.Lookups.{vertex_element}
use Rattle.graph_meaning.specs.Answers.{query_singletons}
use Rattle.graph_meaning.specs.Blocks.{path_blocks, blocks}
use Rattle.graph_meaning.specs.Lists.{numbers_below}
use Rattle.graph_meaning.specs.Weights.{is_candidate}
use Rattle.graph_meaning.proofs.Members.{both_parts, from_filter, from_flat, from_map}
use Rattle.sql_algebra.specs.declared.tree.Conjunct.{Conjunct}
use Rattle.sql_algebra.specs.declared.tree.Conjunct.TheVariants.{NotExists}
use Rattle.sql_algebra.specs.declared.tree.Select.{Select}
use Rattle.path_lowering.specs.declared.spots.Kind.TheVariants.{Vertex}
use Rattle.path_lowering.specs.Spots.{element_at, spots_along}
use Rattle.path_lowering.specs.Blocks.{Laid, plan_of}
use Rattle.path_lowering.specs.Lowered.{Combining, IsCombining, IsLowerable, lay_all, laid_block, or_none}
use Rattle.path_lowering.specs.Selects.{IsBlockLaid}
use Rattle.path_lowering.specs.Shortest.{spot_at, last_place, candidate_select, candidate_laid, none_shorter}
use Rattle.path_lowering.proofs.AnswerLemmas.{spots_many}
use Rattle.path_lowering.proofs.EndLemmas.{first_element, last_element}
use Rattle.path_lowering.proofs.LaidLemmas.{Belongs, belongs, are, block_laid, some_number}
use Rattle.path_lowering.proofs.PlacingLemmas.{and_join, of_each}
use Rattle.shortest_lowering.specs.Selected.{shorter_of}

in_chosen : {X : Type 0} (b : Bool) (x : X) (xs : List X) → IsIn x (cond b xs []) → IsIn x xs
in_chosen true x xs h = h
in_chosen false x xs h = absurd h

-- the members that one item gives are no more than those of all
part_long : {A B : Type 0} (f : A → List B) (x : A) (xs : List A) → IsIn x xs → length (f x) ≤ length (flat_map f xs)
part_long f x [] h = absurd h
part_long f x (y ∷ ys) (inl e) = let n = length-append (f y) (flat_map f ys) in subst (λ z. length (f z) ≤ length (f y ++ flat_map f ys)) e (omega (arith, n))
part_long f x (y ∷ ys) (inr h) = let n = length-append (f y) (flat_map f ys) in let m = part_long f x ys h in omega (arith, n, m)

-- what holds of NOT EXISTS of each candidate of each path holds of all conjuncts
pub each_shorter : (catalog : Catalog) (graph : Graph) (combined : Combining) (fine : Conjunct → Bool) (parts : List Laid)
    → ((one : Laid) → IsIn one parts → (other : PathBlock) → IsIn other (filter (is_candidate one.part) (path_blocks graph one.part.path one.path))
    → fine (NotExists (candidate_select catalog graph (candidate_laid catalog graph combined one.path other) one.spots)) ≡ true)
    → list_all fine (flat_map (shorter_of catalog graph combined) parts) ≡ true
each_shorter catalog graph combined fine parts each =
    of_each fine (flat_map (shorter_of catalog graph combined) parts)
    (λ c h.
    let of = from_flat (shorter_of catalog graph combined) c parts h in
    let made = from_map (λ other. NotExists (candidate_select catalog graph (candidate_laid catalog graph combined of.0.path other) of.0.spots)) c
    (filter (is_candidate of.0.part) (path_blocks graph of.0.part.path of.0.path))
    (in_chosen of.0.path.all_shortest c (none_shorter catalog graph combined of.0.path of.0.part of.0.spots) of.2) in
    subst (λ (x : Conjunct). fine x ≡ true) made.2 (each of.0 of.1 made.0 made.1))

-- what holds of the SELECT of each block, and of that of none, holds of all SELECTs
pub each_select : (fine : Select → Bool) (none : Select) (of : Block → Select) (those : List Block) → fine none ≡ true
    → ((block : Block) → IsIn block those → fine (of block) ≡ true) → list_all fine (or_none none (map of those)) ≡ true
each_select fine none of [] h each = and_join _ _ h refl
each_select fine none of (b ∷ bs) h each = list_all-map fine of (b ∷ bs) ∙ of_each (λ block. fine (of block)) (b ∷ bs) each

module _ (catalog : Catalog) (graph : Graph) (valid : IsValidGraph catalog graph) (instance : InstanceRows) (fits : Fits catalog instance) (query : CheckedQuery)
    (ok : IsLowerable graph query) (combined : Combining) where
  -- each path of a block that is laid belongs to its path block
  laid_belongs : (prefix : ℕ) (paths : List CheckedPath) (parts : List PathBlock) (items : List ℕ) → AllZip (Belongs catalog graph valid instance fits query ok) paths parts
      → (one : Laid) → IsIn one (lay_all catalog graph prefix combined paths parts items) → Belongs catalog graph valid instance fits query ok one.path one.part
  laid_belongs prefix [] parts items all one h = absurd h
  laid_belongs prefix (path ∷ paths) [] items all one h = absurd h
  laid_belongs prefix (path ∷ paths) (p ∷ ps) items all one (inl e) = subst (λ (l : Laid). Belongs catalog graph valid instance fits query ok l.path l.part) e all.0
  laid_belongs prefix (path ∷ paths) (p ∷ ps) items all one (inr h) = laid_belongs prefix paths ps (drop (length p.elements) items) all.1 one h

  module _ (combines : IsCombining combined) (block : Block) (there : IsIn block (blocks graph query)) where
    abbrev parts : List Laid
    parts = laid_block catalog graph 65 combined query block

    laid : IsBlockLaid catalog graph 65 (query_singletons query) parts query.condition query.columns
    laid = block_laid catalog graph valid instance fits query ok 65 combined combines block there

    module _ (one : Laid) (h : IsIn one parts) where
      here : Belongs catalog graph valid instance fits query ok one.path one.part
      here =
          laid_belongs 65 query.paths block.paths (plan_of (query_singletons query) (flat_map (λ part. part.tags) block.paths))
          (are catalog graph valid instance fits query ok 65 combined combines block there) one h

      abbrev items : List ℕ
      items = (laid.parts_laid one h).items

      enough : length one.part.elements ≤ length items
      enough = (laid.parts_laid one h).many

      spots_are : one.spots ≡ spots_along Vertex one.part.elements items
      spots_are = (laid.parts_laid one h).spots

      places : length one.spots ≡ length one.part.elements
      places = ap length spots_are ∙ spots_many Vertex one.part.elements items enough

      few : length one.part.elements < 2 ^ 32
      few = let all = laid.few in let n = part_long (λ laid. laid.spots) one parts h in omega (arith, all, n, places)

      pub some_place : 1 ≤ length one.spots
      some_place = subst (λ n. 1 ≤ n) (sym places) (some_number catalog graph valid instance fits query ok one.part.elements here.fitting.numbers)

      module _ (other : PathBlock) (k : IsIn other (filter (is_candidate one.part) (path_blocks graph one.part.path one.path))) where
        kept : IsIn other (path_blocks graph one.part.path one.path) × (is_candidate one.part other ≡ true)
        kept = from_filter (is_candidate one.part) other (path_blocks graph one.part.path one.path) k

        known : Belongs catalog graph valid instance fits query ok one.path other
        known = belongs catalog graph valid instance fits query ok one.path one.part.path other here.among kept.0

        abbrev own : Laid
        own = candidate_laid catalog graph combined one.path other

        own_enough : length other.elements ≤ length (numbers_below (length other.elements))
        own_enough = let n = length-range_with_len 0 (length other.elements) in omega (arith, n)

        own_places : length own.spots ≡ length other.elements
        own_places = spots_many Vertex other.elements (numbers_below (length other.elements)) own_enough

        fewer : length other.elements < length one.part.elements
        fewer = (Decides-ltb (length other.elements) (length one.part.elements)).0 (both_parts _ _ kept.1).0

        first : slice_index_or other.elements 0 0 ≡ slice_index_or one.part.elements 0 0
        first = eqb-true _ _ (both_parts _ _ (both_parts _ _ kept.1).1).0

        last : slice_index_or other.elements (length other.elements - 1) 0 ≡ slice_index_or one.part.elements (length one.part.elements - 1) 0
        last = eqb-true _ _ (both_parts _ _ (both_parts _ _ kept.1).1).1

        pub among : IsIn one.path query.paths
        among = here.among

        pub other_there : IsIn other (path_blocks graph one.part.path one.path)
        other_there = kept.0

        pub other_few : length other.elements < 2 ^ 32
        other_few = omega (arith, fewer, few)

        pub first_same : element_at graph (spot_at own.spots 0) ≡ element_at graph (spot_at one.spots 0)
        first_same =
            first_element graph other.elements (numbers_below (length other.elements)) known.fitting.numbers own_enough
            ∙ ap (vertex_element graph) first
            ∙ sym (first_element graph one.part.elements items here.fitting.numbers enough)
            ∙ ap (λ spots. element_at graph (spot_at spots 0)) (sym spots_are)

        pub last_same : element_at graph (spot_at own.spots (last_place own.spots)) ≡ element_at graph (spot_at one.spots (last_place one.spots))
        last_same =
            ap (λ n. element_at graph (spot_at own.spots (n - 1))) own_places
            ∙ last_element graph other.elements (numbers_below (length other.elements)) known.fitting.numbers own_enough
            ∙ ap (vertex_element graph) last
            ∙ sym (last_element graph one.part.elements items here.fitting.numbers enough)
            ∙ ap (λ n. element_at graph (spot_at (spots_along Vertex one.part.elements items) (n - 1))) (sym places)
            ∙ ap (λ spots. element_at graph (spot_at spots (length one.spots - 1))) (sym spots_are)
