-- A graph block of a query that can be lowered is laid out.
use Rattle.std.proofs.Common.{◌≡◌, ℕ, zero, suc, ◌+◌, ◌≤◌, ◌<◌, ◌^◌, true, List, [], ◌∷◌, ◌++◌, map, filter, flat_map, length, take, drop, refl, sym, ap, ap₂, subst, ◌∙◌, inl}
use Rattle.std.proofs.Common.{inr, arith, nat_eq, Option, None, Some, length-append}
use Rattle.std.specs.List.{AllZip, enumerate_from}
use Rattle.std.proofs.Math.ListN.{length-map}
use Rattle.std.proofs.lemmas.List.FromFn.{length-range_with_len}
use Rattle.pgq_base.specs.Instances.{InstanceRows}
use Rattle.multisets.specs.Bags.{IsIn}
use Rattle.multisets.proofs.Members.{in_parts}
use Rattle.graph_ast.specs.declared.catalog.Catalog.{Catalog}
use Rattle.graph_ast.specs.declared.catalog.Graph.{Graph}
use Rattle.graph_ast.specs.declared.checked.CheckedPath.{CheckedPath}
use Rattle.graph_ast.specs.declared.checked.CheckedQuery.{CheckedQuery}
use Rattle.graph_ast.specs.declared.blocks.Tags.{Tags}
use Rattle.graph_ast.specs.declared.blocks.Alternative.{Alternative}
use Rattle.graph_ast.specs.declared.blocks.PathBlock.{PathBlock}
use Rattle.graph_ast.specs.declared.blocks.Block.{Block}
use Rattle.graph_ast.specs.Catalogs.{IsValidGraph}
use Rattle.graph_ast.specs.Fits.{Fits}
use Rattle.graph_meaning.specs.Lists.{numbers_below, alternating, agree, combinations}
use Rattle.graph_meaning.specs.Choices.{expansion_of, place_count, choices, tags_of, singletons_of}
use Rattle.graph_meaning.specs.Answers.{query_singletons}
use Rattle.graph_meaning.specs.Blocks.{Shape, same_shape, assignments, is_feasible, complete, shapes_of, shapes, block_of, path_blocks, query_path_blocks, is_shared, blocks}
use Rattle.graph_meaning.proofs.Members.{from_filter, from_map, in_flat, from_flat, from_distinct, from_combinations}
use Rattle.graph_meaning.proofs.BlockLemmas.{same_shape_decides}
use Rattle.graph_meaning.proofs.BlockRows.{block_numbers, alternative_is}
use Rattle.graph_meaning.proofs.GraphRows.{block_picks}
use Rattle.graph_meaning.proofs.ItemLemmas.{zip_long}
use Rattle.graph_meaning.proofs.RowLemmas.{AreNumbers, AreNumbersAfter}
use Rattle.path_lowering.specs.declared.spots.Kind.{Kind}
use Rattle.path_lowering.specs.declared.spots.Kind.TheVariants.{Vertex, Edge}
use Rattle.path_lowering.specs.declared.spots.Spot.{Spot}
use Rattle.path_lowering.specs.Spots.{spots_along, other_kind}
use Rattle.path_lowering.specs.Shown.{count_of_kind}
use Rattle.path_lowering.specs.Blocks.{Laid, IsPart, shared_item, plan_after, plan_of, laid_tags, laid_spots}
use Rattle.path_lowering.specs.Selects.{IsLaidOut, IsBlockLaid}
use Rattle.path_lowering.specs.Lowered.{Combining, IsCombining, IsLowerable, lay_all, laid_block}
use Rattle.path_lowering.proofs.Lists.{map-append}
use Rattle.path_lowering.proofs.BlockLemmas.{numbers_along}
use Rattle.path_lowering.proofs.AnswerLemmas.{Fitting, items_split, tags_laid}
use Rattle.path_lowering.proofs.KindLemmas.{KindsAt, path_kinds, kinds_agree}

alternating_long : {X : Type 0} (x y : X) (n : ℕ) → length (alternating x y n) ≡ n
alternating_long x y zero = refl
alternating_long x y (suc n) = ap suc (alternating_long y x n)

-- a plan has an item for each place
pub plan_long : (names : List (List ℕ)) (earlier : List (Tags × ℕ)) (next : ℕ) (tags : List Tags) → length (plan_after names earlier next tags) ≡ length tags
plan_long names earlier next [] = refl
plan_long names earlier next (t ∷ ts) = go (shared_item names t earlier) (λ seen n. plan_long names seen n ts)
  where
    go : (o : Option ℕ) → ((seen : List (Tags × ℕ)) (n : ℕ) → length (plan_after names seen n ts) ≡ length ts)
        → length {A = ℕ} (elim o [
          | Some item ↦ item ∷ plan_after names (earlier ++ (t, item) ∷ []) next ts
          | None ↦ next ∷ plan_after names (earlier ++ (t, next) ∷ [])
              (suc next) ts
        ]) ≡ suc (length ts)
    go (Some item) more = ap suc (more (earlier ++ (t, item) ∷ []) next)
    go None more = ap suc (more (earlier ++ (t, next) ∷ []) (suc next))

pub items_along : (kind : Kind) (ns items : List ℕ) → length ns ≤ length items → map (λ spot. spot.item) (spots_along kind ns items) ≡ take (length ns) items
items_along kind [] items many = refl
items_along kind (n ∷ ns) [] many = absurd (omega (arith, many))
items_along kind (n ∷ ns) (a ∷ items) many = ap (λ l. a ∷ l) (items_along (other_kind kind) ns items (omega (arith, many)))

take_all : {X : Type 0} (n : ℕ) (xs : List X) → take n xs ++ drop n xs ≡ xs
take_all zero xs = refl
take_all (suc n) [] = refl
take_all (suc n) (x ∷ xs) = ap (λ l. x ∷ l) (take_all n xs)

zip_append : {A B : Type 0} (R : A → B → Type 0) (xs us : List A) (ys vs : List B) → AllZip R xs ys → AllZip R us vs → AllZip R (xs ++ us) (ys ++ vs)
zip_append R [] us [] vs h k = k
zip_append R [] us (y ∷ ys) vs h k = absurd h
zip_append R (x ∷ xs) us [] vs h k = absurd h
zip_append R (x ∷ xs) us (y ∷ ys) vs h k = (h.0, zip_append R xs us ys vs h.1 k)

-- some choice has the tags of a path block, and as many places
pub record IsShaped (graph : Graph) (path : CheckedPath) (part : PathBlock) : Type 0 where
  pub choice : Alternative
  pub there : IsIn choice (choices path)
  pub tags : tags_of path choice ≡ part.tags
  pub sized : length part.elements ≡ place_count (expansion_of path choice)
  pub feasible : is_feasible graph path choice part.elements ≡ true

shaped : (graph : Graph) (path : CheckedPath) (place : ℕ) (part : PathBlock) → IsIn part (path_blocks graph place path) → IsShaped graph path part
shaped graph path place part h =
    let made = from_map (block_of graph path place) part (shapes graph path) h in
    let of = from_flat (shapes_of graph path) made.0 (choices path) (from_distinct same_shape same_shape_decides made.0 (flat_map (shapes_of graph path) (choices path)) made.1) in
    let count = place_count (expansion_of path of.0) in
    let assigned = from_map (λ assignment. (tags_of path of.0, assignment)) made.0 (complete graph path of.0) of.2 in
    let feasible = from_filter (is_feasible graph path of.0) assigned.0 (assignments graph count) assigned.1 in
    let picks = from_combinations assigned.0 (alternating (numbers_below (length graph.vertices)) (numbers_below (length graph.edges)) count) feasible.0 in
    let elements = zip_long IsIn assigned.0 (alternating (numbers_below (length graph.vertices)) (numbers_below (length graph.edges)) count) picks
    ∙ alternating_long (numbers_below (length graph.vertices)) (numbers_below (length graph.edges)) count in
    subst (λ (b : PathBlock). IsShaped graph path b) made.2
    (subst (λ (s : Shape). IsShaped graph path (block_of graph path place s)) assigned.2
    (record { choice = of.0; there = of.1; tags = refl; sized = elements; feasible = feasible.1 }))

tags_long : (path : CheckedPath) (choice : Alternative) → length (tags_of path choice) ≡ place_count (expansion_of path choice)
tags_long path choice = length-map (numbers_below (place_count (expansion_of path choice))) _ ∙ length-range_with_len 0 (place_count (expansion_of path choice))

module _ (catalog : Catalog) (graph : Graph) (valid : IsValidGraph catalog graph) (instance : InstanceRows) (fits : Fits catalog instance) (query : CheckedQuery)
    (ok : IsLowerable graph query) where
  abbrev names : List (List ℕ)
  names = query_singletons query

  -- what is known of a path and its path block
  pub record Belongs (path : CheckedPath) (part : PathBlock) : Type 0 where
    pub among : IsIn path query.paths
    pub shape : IsShaped graph path part
    pub many : length part.tags ≡ length part.elements
    pub fitting : Fitting graph instance path part
    pub is_part : IsPart graph path part

  pub belongs : (path : CheckedPath) (place : ℕ) (part : PathBlock) → IsIn path query.paths → IsIn part (path_blocks graph place path) → Belongs path part
  belongs path place part among h =
      let shape = shaped graph path place part h in
      let many : length part.tags ≡ length part.elements = ap length (sym shape.tags) ∙ tags_long path shape.choice ∙ sym shape.sized in
      let sized : (choice : Alternative) → IsIn choice part.alternatives → length part.elements ≡ place_count (expansion_of path choice) =
      λ choice k. sym many ∙ ap length (sym (alternative_is graph path place part h choice k).tags) ∙ tags_long path choice in
      record {
        among = among;
        shape = shape;
        many = many;
        fitting = record { numbers = block_numbers catalog graph valid instance fits path place part h; sized = sized };
        is_part = record {
          feasible = λ choice k. (alternative_is graph path place part h choice k).feasible;
          sized = sized;
          tagged = λ choice k. (alternative_is graph path place part h choice k).tags;
          plain = λ choice k scoped m. ok.plain path among choice (alternative_is graph path place part h choice k).there scoped m;
        };
      }

  pub all_belong : (n : ℕ) (paths : List CheckedPath) (parts : List PathBlock) → ((path : CheckedPath) → IsIn path paths → IsIn path query.paths)
      → AllZip IsIn parts (map (λ (n : ℕ × CheckedPath). path_blocks graph n.0 n.1) (enumerate_from n paths)) → AllZip Belongs paths parts
  all_belong n [] [] among h = tt
  all_belong n [] (p ∷ ps) among h = absurd h
  all_belong n (path ∷ paths) [] among h = absurd h
  all_belong n (path ∷ paths) (p ∷ ps) among h = (belongs path n p (among path (inl refl)) h.0, all_belong (n + 1) paths ps (λ q k. among q (inr k)) h.1)

  pub all_fit : (paths : List CheckedPath) (parts : List PathBlock) → AllZip Belongs paths parts → AllZip (Fitting graph instance) paths parts
  all_fit [] [] are = tt
  all_fit [] (p ∷ ps) are = absurd are
  all_fit (path ∷ paths) [] are = absurd are
  all_fit (path ∷ paths) (p ∷ ps) are = (are.0.fitting, all_fit paths ps are.1)

  abbrev numbers_in : List PathBlock → List ℕ
  numbers_in parts = flat_map (λ part. part.elements) parts

  abbrev tags_in : List PathBlock → List Tags
  tags_in parts = flat_map (λ part. part.tags) parts

  pub tags_many : (paths : List CheckedPath) (parts : List PathBlock) → AllZip Belongs paths parts → length (tags_in parts) ≡ length (numbers_in parts)
  tags_many [] [] are = refl
  tags_many [] (p ∷ ps) are = absurd are
  tags_many (path ∷ paths) [] are = absurd are
  tags_many (path ∷ paths) (p ∷ ps) are =
      length-append p.tags (tags_in ps) ∙ ap₂ ◌+◌ are.0.many (tags_many paths ps are.1) ∙ sym (length-append p.elements (numbers_in ps))

  -- the elements of places are there
  after_there : (ns items : List ℕ) → AreNumbersAfter graph ns → (spot : Spot) → IsIn spot (spots_along Edge ns items) → spot.element < count_of_kind graph spot.kind
  after_there [] items are spot h = absurd h
  after_there (e ∷ []) items are spot h = absurd are
  after_there (e ∷ v ∷ ns) [] are spot h = absurd h
  after_there (e ∷ v ∷ ns) (a ∷ []) are spot (inl k) = subst (λ (s : Spot). s.element < count_of_kind graph s.kind) k are.0
  after_there (e ∷ v ∷ ns) (a ∷ []) are spot (inr k) = absurd k
  after_there (e ∷ v ∷ ns) (a ∷ b ∷ items) are spot (inl k) = subst (λ (s : Spot). s.element < count_of_kind graph s.kind) k are.0
  after_there (e ∷ v ∷ ns) (a ∷ b ∷ items) are spot (inr (inl k)) = subst (λ (s : Spot). s.element < count_of_kind graph s.kind) k are.1
  after_there (e ∷ v ∷ ns) (a ∷ b ∷ items) are spot (inr (inr k)) = after_there ns items are.2 spot k

  pub elements_there : (ns items : List ℕ) → AreNumbers graph ns → (spot : Spot) → IsIn spot (spots_along Vertex ns items) → spot.element < count_of_kind graph spot.kind
  elements_there [] items are spot h = absurd h
  elements_there (v ∷ ns) [] are spot h = absurd h
  elements_there (v ∷ ns) (a ∷ items) are spot (inl k) = subst (λ (s : Spot). s.element < count_of_kind graph s.kind) k are.0
  elements_there (v ∷ ns) (a ∷ items) are spot (inr k) = after_there ns items are.1 spot k

  pub some_number : (ns : List ℕ) → AreNumbers graph ns → 1 ≤ length ns
  some_number [] are = absurd are
  some_number (n ∷ ns) are = omega arith

  module _ (prefix : ℕ) (combined : Combining) (combines : IsCombining combined) where
    abbrev laid : List CheckedPath → List PathBlock → List ℕ → List Laid
    laid = lay_all catalog graph prefix combined

    split : (p : PathBlock) (ps : List PathBlock) (items : List ℕ) → length items ≡ length (numbers_in (p ∷ ps))
        → (length p.elements ≤ length items) × (length (drop (length p.elements) items) ≡ length (numbers_in ps))
    split = items_split graph instance catalog prefix combined

    laid_out : (paths : List CheckedPath) (parts : List PathBlock) (items : List ℕ) → AllZip Belongs paths parts → length items ≡ length (numbers_in parts)
        → (one : Laid) → IsIn one (laid paths parts items) → IsLaidOut catalog graph prefix names one
    laid_out [] parts items are long one h = absurd h
    laid_out (path ∷ paths) [] items are long one h = absurd h
    laid_out (path ∷ paths) (p ∷ ps) items are long one (inr h) = laid_out paths ps (drop (length p.elements) items) are.1 (split p ps items long).1 one h
    laid_out (path ∷ paths) (p ∷ ps) items are long one (inl e) =
        subst (λ (l : Laid). IsLaidOut catalog graph prefix names l) e (record {
          items = items;
          many = (split p ps items long).0;
          spots = refl;
          part = are.0.is_part;
          says = combines (Rattle.path_lowering.specs.Blocks.alternatives_of catalog graph prefix path p (spots_along Vertex p.elements items));
          tags_many = are.0.many;
          edges = (expansion_of path are.0.shape.choice).edges;
          sized = are.0.shape.sized;
          names_in = λ name k. in_flat singletons_of name path query.paths are.0.among k;
        })

    spots_there : (paths : List CheckedPath) (parts : List PathBlock) (items : List ℕ) → AllZip Belongs paths parts
        → (spot : Spot) → IsIn spot (laid_spots (laid paths parts items)) → spot.element < count_of_kind graph spot.kind
    spots_there [] parts items are spot h = absurd h
    spots_there (path ∷ paths) [] items are spot h = absurd h
    spots_there (path ∷ paths) (p ∷ ps) items are spot h =
        elim (in_parts spot (spots_along Vertex p.elements items) (laid_spots (laid paths ps (drop (length p.elements) items))) h)
        [ inl k ↦ elements_there p.elements items are.0.fitting.numbers spot k | inr k ↦ spots_there paths ps (drop (length p.elements) items) are.1 spot k ]

    items_laid : (paths : List CheckedPath) (parts : List PathBlock) (items : List ℕ) → AllZip Belongs paths parts → length items ≡ length (numbers_in parts)
        → map (λ spot. spot.item) (laid_spots (laid paths parts items)) ≡ items
    items_laid [] [] [] are long = refl
    items_laid [] [] (a ∷ items) are long = absurd (omega (arith, long))
    items_laid [] (p ∷ ps) items are long = absurd are
    items_laid (path ∷ paths) [] items are long = absurd are
    items_laid (path ∷ paths) (p ∷ ps) items are long =
        map-append (λ spot. spot.item) (spots_along Vertex p.elements items) (laid_spots (laid paths ps (drop (length p.elements) items)))
        ∙ ap₂ (λ l m. l ++ m) (items_along Vertex p.elements items (split p ps items long).0) (items_laid paths ps (drop (length p.elements) items) are.1 (split p ps items long).1)
        ∙ take_all (length p.elements) items

    numbers_laid : (paths : List CheckedPath) (parts : List PathBlock) (items : List ℕ) → AllZip Belongs paths parts → length items ≡ length (numbers_in parts)
        → map (λ spot. spot.element) (laid_spots (laid paths parts items)) ≡ numbers_in parts
    numbers_laid [] [] items are long = refl
    numbers_laid [] (p ∷ ps) items are long = absurd are
    numbers_laid (path ∷ paths) [] items are long = absurd are
    numbers_laid (path ∷ paths) (p ∷ ps) items are long =
        map-append (λ spot. spot.element) (spots_along Vertex p.elements items) (laid_spots (laid paths ps (drop (length p.elements) items)))
        ∙ ap₂ (λ l m. l ++ m) (numbers_along Vertex p.elements items (split p ps items long).0)
        (numbers_laid paths ps (drop (length p.elements) items) are.1 (split p ps items long).1)

    kinds_laid : (paths : List CheckedPath) (parts : List PathBlock) (items : List ℕ) → AllZip Belongs paths parts → length items ≡ length (numbers_in parts)
        → AllZip (KindsAt query) (tags_in parts) (map (λ spot. spot.kind) (laid_spots (laid paths parts items)))
    kinds_laid [] [] items are long = tt
    kinds_laid [] (p ∷ ps) items are long = absurd are
    kinds_laid (path ∷ paths) [] items are long = absurd are
    kinds_laid (path ∷ paths) (p ∷ ps) items are long =
        let shape = are.0.shape in
        subst (AllZip (KindsAt query) (tags_in (p ∷ ps)))
        (sym (map-append (λ spot. spot.kind) (spots_along Vertex p.elements items) (laid_spots (laid paths ps (drop (length p.elements) items)))))
        (zip_append (KindsAt query) p.tags (tags_in ps) (map (λ spot. spot.kind) (spots_along Vertex p.elements items))
        (map (λ spot. spot.kind) (laid_spots (laid paths ps (drop (length p.elements) items))))
        (subst (λ ts. AllZip (KindsAt query) ts (map (λ spot. spot.kind) (spots_along Vertex p.elements items))) shape.tags
        (path_kinds query path are.0.among shape.choice shape.there p.elements items shape.sized (split p ps items long).0))
        (kinds_laid paths ps (drop (length p.elements) items) are.1 (split p ps items long).1))

    module _ (block : Block) (there : IsIn block (blocks graph query)) where
      abbrev plan : List ℕ
      plan = plan_of names (tags_in block.paths)

      abbrev laid_parts : List Laid
      laid_parts = laid_block catalog graph prefix combined query block

      pub are : AllZip Belongs query.paths block.paths
      are = all_belong 0 query.paths block.paths (λ path h. h) (block_picks catalog graph valid instance fits [] query block there)

      pub plan_is_long : length plan ≡ length (numbers_in block.paths)
      plan_is_long = plan_long names [] 0 (tags_in block.paths) ∙ tags_many query.paths block.paths are

      tags_are : laid_tags laid_parts ≡ tags_in block.paths
      tags_are = tags_laid graph instance catalog prefix combined query.paths block.paths plan (all_fit query.paths block.paths are)

      pub planned : map (λ spot. spot.item) (laid_spots laid_parts) ≡ plan
      planned = items_laid query.paths block.paths plan are plan_is_long

      size : length (laid_spots laid_parts) ≡ length (numbers_in block.paths)
      size = sym (length-map (laid_spots laid_parts) (λ spot. spot.item)) ∙ ap length planned ∙ plan_is_long

      shared : is_shared query block.paths ≡ true
      shared =
          let made = from_map (λ parts. record { paths = parts }) block (filter (is_shared query) (combinations (query_path_blocks graph query))) there in
          subst (λ (b : Block). is_shared query b.paths ≡ true) made.2 (from_filter (is_shared query) made.0 (combinations (query_path_blocks graph query)) made.1).1

      pub some_place : (paths : List CheckedPath) (parts : List PathBlock) → 1 ≤ length paths → AllZip Belongs paths parts → 1 ≤ length (numbers_in parts)
      some_place [] parts some are = absurd (omega (arith, some))
      some_place (path ∷ paths) [] some are = absurd are
      some_place (path ∷ paths) (p ∷ ps) some are =
          let a = length-append p.elements (numbers_in ps) in
          let b = some_number p.elements are.0.fitting.numbers in
          omega (arith, a, b)

      pub block_laid : IsBlockLaid catalog graph prefix names laid_parts query.condition query.columns
      block_laid = record {
        some = subst (λ n. 1 ≤ n) (sym size) (some_place query.paths block.paths ok.some are);
        few = subst (λ n. n < 2 ^ 32) (sym size) (ok.few block there);
        elements = spots_there query.paths block.paths plan are;
        parts_laid = laid_out query.paths block.paths plan are plan_is_long;
        shared = names;
        among = λ name h. h;
        planned = planned ∙ ap (plan_of names) (sym tags_are);
        numbers = ap₂ (agree nat_eq names) tags_are (numbers_laid query.paths block.paths plan are plan_is_long) ∙ shared;
        kinds = kinds_agree query ok.kinds names (laid_tags laid_parts) (map (λ spot. spot.kind) (laid_spots laid_parts))
            (subst (λ ts. AllZip (KindsAt query) ts (map (λ spot. spot.kind) (laid_spots laid_parts))) (sym tags_are) (kinds_laid query.paths block.paths plan are plan_is_long));
        plain = ok.condition;
        plain_outputs = ok.columns;
      }
