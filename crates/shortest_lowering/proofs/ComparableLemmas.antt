-- The path blocks of a graph block of a query that can be lowered can be compared with their candidates.
use Rattle.std.proofs.Common.{◌≡◌, ℕ, zero, suc, ◌+◌, ◌-◌, ◌≤◌, ◌<◌, ◌^◌, Bool, true, List, [], ◌∷◌, ◌++◌, map, filter, flat_map, length, drop, slice_index_or, refl, sym, ap}
use Rattle.std.proofs.Common.{ap₂, subst, ◌∙◌, inl, inr, arith, nat_eq, None, length-append}
use Rattle.std.specs.List.{AllZip, enumerate_from, list_all}
use Rattle.std.proofs.Math.ListN.{length-map}
use Rattle.std.proofs.lemmas.List.FromFn.{length-range_with_len}
use Rattle.std.proofs.lemmas.Bool.{eqb-true}
use Rattle.std.proofs.lemmas.Bool.Decides.{Decides-ltb}
use Rattle.pgq_base.specs.Instances.{InstanceRows}
use Rattle.multisets.specs.Bags.{IsIn}
use Rattle.graph_ast.specs.declared.catalog.Catalog.{Catalog}
use Rattle.graph_ast.specs.declared.catalog.Graph.{Graph}
use Rattle.graph_ast.specs.declared.checked.CheckedPath.{CheckedPath}
use Rattle.graph_ast.specs.declared.checked.CheckedQuery.{CheckedQuery}
use Rattle.graph_ast.specs.declared.blocks.Tags.{Tags}
use Rattle.graph_ast.specs.declared.blocks.PathBlock.{PathBlock}
use Rattle.graph_ast.specs.declared.blocks.Block.{Block}
use Rattle.graph_ast.specs.Catalogs.{IsValidGraph}
use Rattle.graph_ast.specs.Lookups.{graph_at, vertex_element}
use Rattle.graph_ast.specs.Fits.{Fits, without_rows}
use Rattle.graph_meaning.specs.Lists.{numbers_below, agree, all_same, tagged}
use Rattle.graph_meaning.specs.Choices.{singletons_of}
use Rattle.graph_meaning.specs.Blocks.{block_of, path_blocks, query_path_blocks, shapes, blocks}
use Rattle.graph_meaning.specs.Weights.{is_candidate}
use Rattle.graph_meaning.specs.Laws.{IsFitting}
use Rattle.graph_meaning.proofs.Members.{both_parts, from_filter, from_map}
use Rattle.graph_meaning.proofs.BlockRows.{alternative_is}
use Rattle.graph_meaning.proofs.GraphRows.{block_picks}
use Rattle.path_lowering.specs.declared.spots.Kind.{Kind}
use Rattle.path_lowering.specs.declared.spots.Kind.TheVariants.{Vertex, Edge}
use Rattle.path_lowering.specs.declared.spots.Spot.{Spot}
use Rattle.path_lowering.specs.Spots.{element_of_kind, element_at, same_kind, spots_along}
use Rattle.path_lowering.specs.Blocks.{own_spots, source_of}
use Rattle.path_lowering.specs.Selects.{IsBlockLaid}
use Rattle.path_lowering.specs.Lowered.{IsLowerable}
use Rattle.path_lowering.specs.Apart.{apart}
use Rattle.path_lowering.specs.Layable.{IsLayable, IsServed}
use Rattle.path_lowering.specs.Shortest.{spot_at, last_place, one_column, candidate_laid}
use Rattle.path_lowering.proofs.Lists.{append-nil}
use Rattle.path_lowering.proofs.ApartLemmas.{apart_combines}
use Rattle.path_lowering.proofs.AnswerLemmas.{spots_many}
use Rattle.path_lowering.proofs.CandidateLaid.{candidate_is_laid}
use Rattle.path_lowering.proofs.ConditionLemmas.{tagged_map}
use Rattle.path_lowering.proofs.EndLemmas.{first_element, last_element}
use Rattle.path_lowering.proofs.Facts.{in_at, in_map}
use Rattle.path_lowering.proofs.LaidLemmas.{Belongs, belongs, elements_there, some_number}
use Rattle.path_lowering.proofs.LayableLemmas.{has_key}
use Rattle.path_lowering.proofs.PlacingLemmas.{each_of}
use Rattle.path_lowering.proofs.ServedLemmas.{graph_valid}
use Rattle.path_lowering.proofs.Theorems.{first_item}
use Rattle.shortest_lowering.specs.Comparable.{candidate_spots, IsStanding, IsPosed, IsComparable}
use Rattle.shortest_lowering.specs.PathCandidates.{IsByItself}

-- members that are the same as the first are the same
first_same : {X : Type 0} (same : X → X → Bool) (is : (x y : X) → same x y ≡ true → x ≡ y) (x : X) (xs : List X)
    → list_all (same x) xs ≡ true → (y : X) → IsIn y (x ∷ xs) → x ≡ y
first_same same is x xs all y (inl e) = e
first_same same is x xs all y (inr h) = is x y (each_of (same x) xs all y h)

all_alike : {X : Type 0} (same : X → X → Bool) (is : (x y : X) → same x y ≡ true → x ≡ y) (xs : List X)
    → all_same same xs ≡ true → (x y : X) → IsIn x xs → IsIn y xs → x ≡ y
all_alike same is [] all x y h k = absurd h
all_alike same is (z ∷ zs) all x y h k = sym (first_same same is z zs all x h) ∙ first_same same is z zs all y k

kind_is : (x y : Kind) → same_kind x y ≡ true → x ≡ y
kind_is Vertex Vertex h = refl
kind_is Vertex Edge h = cc
kind_is Edge Vertex h = cc
kind_is Edge Edge h = refl

-- what places of one name have in common
alike_at : {X : Type 0} (same : X → X → Bool) (is : (x y : X) → same x y ≡ true → x ≡ y) (f : Spot → X)
    (names : List (List ℕ)) (tags : List Tags) (spots : List Spot) → agree same names tags (map f spots) ≡ true
    → (name : List ℕ) → IsIn name names → (a b : Spot) → IsIn a (tagged name tags spots) → IsIn b (tagged name tags spots) → f a ≡ f b
alike_at same is f names tags spots all name there a b h k =
    let own : all_same same (map f (tagged name tags spots)) ≡ true = ap (all_same same) (sym (tagged_map f name tags spots))
    ∙ each_of (λ n. all_same same (tagged n tags (map f spots))) names all name there in
    all_alike same is (map f (tagged name tags spots)) own (f a) (f b)
    (in_map f a (tagged name tags spots) h) (in_map f b (tagged name tags spots) k)

-- the places behind some, where they begin with one
next_of : {X : Type 0} (d : X) (xs : List X) (n : ℕ) (y : X) (ys : List X) → drop n xs ≡ y ∷ ys
    → (n < length xs) × ((slice_index_or xs n d ≡ y) × (drop (suc n) xs ≡ ys))
next_of d [] zero y ys e = cc
next_of d [] (suc n) y ys e = cc
next_of d (x ∷ xs) zero y ys e = (omega arith, (cc, cc))
next_of d (x ∷ xs) (suc n) y ys e =
    let more = next_of d xs n y ys e in
    let size : n < length xs = more.0 in
    (omega (arith, size), (more.1.0, more.1.1))

path_is : (graph : Graph) (path : CheckedPath) (place : ℕ) (part : PathBlock) → IsIn part (path_blocks graph place path) → part.path ≡ place
path_is graph path place part h =
    let made = from_map (block_of graph path place) part (shapes graph path) h in ap (λ (b : PathBlock). b.path) (sym made.2)

module _ (catalog : Catalog) (graph : Graph) (valid : IsValidGraph catalog graph) (instance : InstanceRows) (fits : Fits catalog instance)
    (query : CheckedQuery) (ok : IsLowerable graph query) where
  layable : (path : CheckedPath) (place : ℕ) (part : PathBlock) → IsIn path query.paths → IsIn part (path_blocks graph place path)
      → length part.elements < 2 ^ 32 → IsLayable graph path part
  layable path place part among h few =
      let is = belongs catalog graph valid instance fits query ok path place part among h in
      record {
        is_part = is.is_part;
        choices = λ choice k. (alternative_is graph path place part h choice k).there;
        tags = is.many;
        few = few;
        elements = λ items many spot k. elements_there catalog graph valid instance fits query ok part.elements items is.fitting.numbers spot k;
      }

  module _ (path : CheckedPath) (among : IsIn path query.paths) (place : ℕ) where
    -- a path block alone, with an item for each place
    module _ (other : PathBlock) (there : IsIn other (path_blocks graph place path)) (few : length other.elements < 2 ^ 32) where
      known : Belongs catalog graph valid instance fits query ok path other
      known = belongs catalog graph valid instance fits query ok path place other among there

      laid : IsBlockLaid catalog graph 83 (singletons_of path) (candidate_laid catalog graph apart path other ∷ []) None (one_column ∷ [])
      laid = candidate_is_laid catalog graph valid instance fits query ok apart apart_combines path among place other there few

      tags_are : other.tags ++ [] ≡ other.tags
      tags_are = append-nil other.tags

      spots_are : candidate_spots other ++ [] ≡ candidate_spots other
      spots_are = append-nil (candidate_spots other)

      enough : length other.elements ≤ length (numbers_below (length other.elements))
      enough = let n = length-range_with_len 0 (length other.elements) in omega (arith, n)

      many : length (candidate_spots other) ≡ length other.elements
      many = spots_many Vertex other.elements (numbers_below (length other.elements)) enough

      some : 1 ≤ length (candidate_spots other)
      some = subst (λ n. 1 ≤ n) (sym many) (some_number catalog graph valid instance fits query ok other.elements known.fitting.numbers)

      first_own : 1 ≤ length (own_spots 0 (candidate_spots other))
      first_own =
          subst (λ (l : List Spot). 1 ≤ length (own_spots 0 l)) spots_are
          (first_item laid.shared (other.tags ++ []) (candidate_spots other ++ []) laid.some
          (ap length tags_are ∙ known.many ∙ sym many ∙ ap length (sym spots_are)) laid.planned)

      alike : (name : List ℕ) (a b : Spot) → IsIn name (singletons_of path) → IsIn a (tagged name other.tags (candidate_spots other))
          → IsIn b (tagged name other.tags (candidate_spots other)) → element_at graph a ≡ element_at graph b
      alike name a b k h i =
          ap₂ (λ kind number. element_of_kind graph kind number)
          (alike_at same_kind kind_is (λ spot. spot.kind) (singletons_of path) other.tags (candidate_spots other)
          (sym (ap₂ (λ t (l : List Spot). agree same_kind (singletons_of path) t (map (λ spot. spot.kind) l)) tags_are spots_are) ∙ laid.kinds) name k a b h i)
          (alike_at nat_eq (λ x y e. eqb-true x y e) (λ spot. spot.element) (singletons_of path) other.tags (candidate_spots other)
          (sym (ap₂ (λ t (l : List Spot). agree nat_eq (singletons_of path) t (map (λ spot. spot.element) l)) tags_are spots_are) ∙ laid.numbers) name k a b h i)

      pub standing : IsStanding catalog graph path other
      standing = record {
        valid = valid;
        layable = layable path place other among there few;
        alike = alike;
        sources = λ prefix. subst (λ n. 1 ≤ n) (sym (length-map (own_spots 0 (candidate_spots other)) (source_of catalog graph prefix))) first_own;
      }

    -- a path block and its candidates
    module _ (part : PathBlock) (part_in : IsIn part (path_blocks graph place path)) (few : length part.elements < 2 ^ 32)
        (items : List ℕ) (enough_items : length part.elements ≤ length items) where
      here : Belongs catalog graph valid instance fits query ok path part
      here = belongs catalog graph valid instance fits query ok path place part among part_in

      abbrev outside : List Spot
      outside = spots_along Vertex part.elements items

      outside_many : length outside ≡ length part.elements
      outside_many = spots_many Vertex part.elements items enough_items

      some_outside : 1 ≤ length outside
      some_outside = subst (λ n. 1 ≤ n) (sym outside_many) (some_number catalog graph valid instance fits query ok part.elements here.fitting.numbers)

      abbrev no_spot : Spot
      no_spot = record { kind = Vertex; element = 0; item = 0 }

      posed : (other : PathBlock) → IsIn other (filter (is_candidate part) (path_blocks graph place path)) → IsPosed catalog graph path outside other
      posed other h =
          let kept = from_filter (is_candidate part) other (path_blocks graph place path) h in
          let shorter = both_parts _ _ kept.1 in
          let same = both_parts _ _ shorter.1 in
          let fewer : length other.elements < length part.elements = (Decides-ltb (length other.elements) (length part.elements)).0 shorter.0 in
          let few_other : length other.elements < 2 ^ 32 = omega (arith, fewer, few) in
          let own : List Spot = candidate_spots other in
          let numbers = numbers_below (length other.elements) in
          let own_known = known other kept.0 few_other in
          let own_many = many other kept.0 few_other in
          let own_some = some other kept.0 few_other in
          let own_enough = enough other kept.0 few_other in
          record {
            standing = standing other kept.0 few_other;
            ends = record {
              some = own_some;
              some_outside = some_outside;
              first = has_key catalog graph valid (spot_at own 0)
                  (elements_there catalog graph valid instance fits query ok other.elements numbers own_known.fitting.numbers (spot_at own 0)
                  (in_at own 0 no_spot (omega (arith, own_some))));
              first_outside = has_key catalog graph valid (spot_at outside 0)
                  (elements_there catalog graph valid instance fits query ok part.elements items here.fitting.numbers (spot_at outside 0)
                  (in_at outside 0 no_spot (omega (arith, some_outside))));
              same_first =
                  first_element graph other.elements numbers own_known.fitting.numbers own_enough ∙ ap (vertex_element graph) (eqb-true _ _ same.0)
                  ∙ sym (first_element graph part.elements items here.fitting.numbers enough_items);
              last = has_key catalog graph valid (spot_at own (last_place own))
                  (elements_there catalog graph valid instance fits query ok other.elements numbers own_known.fitting.numbers (spot_at own (last_place own))
                  (in_at own (last_place own) no_spot (omega (arith, own_some))));
              last_outside = has_key catalog graph valid (spot_at outside (last_place outside))
                  (elements_there catalog graph valid instance fits query ok part.elements items here.fitting.numbers (spot_at outside (last_place outside))
                  (in_at outside (last_place outside) no_spot (omega (arith, some_outside))));
              same_last =
                  ap (λ n. element_at graph (spot_at own (n - 1))) own_many
                  ∙ last_element graph other.elements numbers own_known.fitting.numbers own_enough ∙ ap (vertex_element graph) (eqb-true _ _ same.1)
                  ∙ sym (last_element graph part.elements items here.fitting.numbers enough_items)
                  ∙ ap (λ n. element_at graph (spot_at outside (n - 1))) (sym outside_many);
            };
          }

  -- path by path, where the path blocks of all paths are given from some place on
  all_comparable : (candidates : List (List PathBlock)) (n : ℕ) (paths : List CheckedPath) (parts : List PathBlock)
      → ((path : CheckedPath) → IsIn path paths → IsIn path query.paths)
      → length (flat_map (λ part. part.elements) parts) < 2 ^ 32
      → drop n candidates ≡ map (λ (numbered : ℕ × CheckedPath). path_blocks graph numbered.0 numbered.1) (enumerate_from n paths)
      → AllZip IsIn parts (map (λ (numbered : ℕ × CheckedPath). path_blocks graph numbered.0 numbered.1) (enumerate_from n paths))
      → AllZip (IsComparable catalog graph candidates) paths parts
  all_comparable candidates n [] [] among few given h = tt
  all_comparable candidates n [] (p ∷ ps) among few given h = absurd h
  all_comparable candidates n (path ∷ paths) [] among few given h = absurd h
  all_comparable candidates n (path ∷ paths) (p ∷ ps) among few given h =
      let both = length-append p.elements (flat_map (λ part. part.elements) ps) in
      let few_own : length p.elements < 2 ^ 32 = omega (arith, both, few) in
      let few_others : length (flat_map (λ part. part.elements) ps) < 2 ^ 32 = omega (arith, both, few) in
      let next = next_of [] candidates n (path_blocks graph n path)
      (map (λ (numbered : ℕ × CheckedPath). path_blocks graph numbered.0 numbered.1) (enumerate_from (n + 1) paths)) given in
      let is = path_is graph path n p h.0 in
      let after : n + 1 ≡ suc n = omega arith in (
        record {
          there = subst (λ m. m < length candidates) (sym is) next.0;
          own = subst (λ m. slice_index_or candidates m [] ≡ path_blocks graph m path) (sym is) next.1.0;
          posed = subst (λ m. (items : List ℕ) → length p.elements ≤ length items → (other : PathBlock) → IsIn other (filter (is_candidate p) (path_blocks graph m path))
              → IsPosed catalog graph path (spots_along Vertex p.elements items) other) (sym is)
              (λ items enough_items other k. posed path (among path (inl refl)) n p h.0 few_own items enough_items other k);
        },
        all_comparable candidates (n + 1) paths ps (λ q k. among q (inr k)) few_others (ap (λ m. drop m candidates) after ∙ next.1.1) h.1,
      )

-- a graph block of a query that can be lowered
pub comparable : (catalog : Catalog) (query : CheckedQuery) (served : IsServed catalog query) (fits : Fits catalog (without_rows catalog))
    (block : Block) → IsIn block (blocks (graph_at catalog query.graph) query)
    → AllZip (IsComparable catalog (graph_at catalog query.graph) (query_path_blocks (graph_at catalog query.graph) query)) query.paths block.paths
comparable catalog query served fits block there =
    let graph = graph_at catalog query.graph in
    let valid = graph_valid catalog query served fits in
    all_comparable catalog graph valid (without_rows catalog) fits query served.lowerable (query_path_blocks graph query) 0 query.paths block.paths
    (λ path h. h) (served.lowerable.few block there) refl
    (block_picks catalog graph valid (without_rows catalog) fits [] query block there)

-- a path block of a query that can be lowered, by itself
pub by_itself : (catalog : Catalog) (query : CheckedQuery) (served : IsServed catalog query) (fits : Fits catalog (without_rows catalog))
    (path : CheckedPath) → IsIn path query.paths → (place : ℕ) (part : PathBlock) → IsIn part (path_blocks (graph_at catalog query.graph) place path)
    → length part.elements < 2 ^ 32 → IsByItself catalog (graph_at catalog query.graph) path part
by_itself catalog query served fits path among place part there few =
    let graph = graph_at catalog query.graph in
    let valid = graph_valid catalog query served fits in
    let known = belongs catalog graph valid (without_rows catalog) fits query served.lowerable path place part among there in
    record {
      standing = standing catalog graph valid (without_rows catalog) fits query served.lowerable path among place part there few;
      some = some_number catalog graph valid (without_rows catalog) fits query served.lowerable part.elements known.fitting.numbers;
    }

-- its graph over an instance that fits
pub fitting : (catalog : Catalog) (query : CheckedQuery) → IsServed catalog query → (instance : InstanceRows) → Fits catalog instance
    → IsFitting catalog (graph_at catalog query.graph) instance
fitting catalog query served instance fits =
    record { valid = served.valid; there = in_at catalog.graphs query.graph (record { name = []; vertices = []; edges = [] }) served.graph; fits = fits }
