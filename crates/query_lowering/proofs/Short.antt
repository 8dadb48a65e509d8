-- A graph block has few places: at most twice as many as the longest choice of each path has edges, and one more.
use Rattle.std.proofs.Common.{◌≡◌, ℕ, zero, suc, ◌+◌, ◌*◌, ◌≤◌, ◌<◌, ◌^◌, List, [], ◌∷◌, map, filter, flat_map, length, refl, sym, ap, subst, ◌∙◌, arith, length-append}
use Rattle.std.specs.List.{AllByRecursion, AllZip, enumerate_from}
use Rattle.multisets.specs.Bags.{IsIn}
use Rattle.graph_ast.specs.declared.catalog.Graph.{Graph}
use Rattle.graph_ast.specs.declared.checked.CheckedPath.{CheckedPath}
use Rattle.graph_ast.specs.declared.checked.CheckedQuery.{CheckedQuery}
use Rattle.graph_ast.specs.declared.blocks.Alternative.{Alternative}
use Rattle.graph_ast.specs.declared.blocks.PathBlock.{PathBlock}
use Rattle.graph_ast.specs.declared.blocks.Block.{Block}
use Rattle.graph_meaning.specs.Lists.{numbers_below, alternating, combinations}
use Rattle.graph_meaning.specs.Choices.{expansion_of, place_count, choices, tags_of, longest}
use Rattle.graph_meaning.specs.Blocks.{Shape, same_shape, assignments, is_feasible, complete, shapes_of, shapes, block_of, path_blocks, query_path_blocks, is_shared, blocks}
use Rattle.graph_meaning.proofs.Members.{from_filter, in_map, from_map, from_flat, from_distinct, from_combinations}
use Rattle.graph_meaning.proofs.BindingLemmas.{at_most_greatest}
use Rattle.graph_meaning.proofs.BlockLemmas.{same_shape_decides}
use Rattle.graph_meaning.proofs.ItemLemmas.{zip_long}
use Rattle.pattern_check.specs.Lowerable.{IsShortPath}

alternating_long : {X : Type 0} (x y : X) (n : ℕ) → length (alternating x y n) ≡ n
alternating_long x y zero = refl
alternating_long x y (suc n) = ap suc (alternating_long y x n)

-- an assignment has an element for each place
assigned_long : (graph : Graph) (count : ℕ) (elements : List ℕ) → IsIn elements (assignments graph count) → length elements ≡ count
assigned_long graph count elements h =
    let lists = alternating (numbers_below (length graph.vertices)) (numbers_below (length graph.edges)) count in
    zip_long IsIn elements lists (from_combinations elements lists h) ∙ alternating_long (numbers_below (length graph.vertices)) (numbers_below (length graph.edges)) count

-- a path block has the places of some choice
pub part_short : (graph : Graph) (path : CheckedPath) (place : ℕ) (part : PathBlock) → IsIn part (path_blocks graph place path) → length part.elements ≤ 2 * longest path + 1
part_short graph path place part h =
    let made = from_map (block_of graph path place) part (shapes graph path) h in
    let of = from_flat (shapes_of graph path) made.0 (choices path) (from_distinct same_shape same_shape_decides made.0 (flat_map (shapes_of graph path) (choices path)) made.1) in
    let count = place_count (expansion_of path of.0) in
    let assigned = from_map (λ assignment. (tags_of path of.0, assignment)) made.0 (complete graph path of.0) of.2 in
    let feasible = from_filter (is_feasible graph path of.0) assigned.0 (assignments graph count) assigned.1 in
    let long : length assigned.0 ≡ count = assigned_long graph count assigned.0 feasible.0 in
    let same : assigned.0 ≡ part.elements = ap (λ (s : Shape). s.1) assigned.2 ∙ ap (λ (b : PathBlock). b.elements) made.2 in
    let edges : (expansion_of path of.0).edges ≤ longest path =
    at_most_greatest (map (λ (choice : Alternative). (expansion_of path choice).edges) (choices path)) (expansion_of path of.0).edges
    (in_map (λ (choice : Alternative). (expansion_of path choice).edges) of.0 (choices path) of.1) in
    short (length part.elements) (length assigned.0) count (expansion_of path of.0).edges (longest path) (ap length (sym same)) long refl edges
  where
    short : (a b count edges most : ℕ) → a ≡ b → b ≡ count → count ≡ 2 * edges + 1 → edges ≤ most → a ≤ 2 * most + 1
    short a b count edges most p q r h = omega (arith, p, q, r, h)

abbrev places_of : List PathBlock → List ℕ
places_of parts = flat_map (λ part. part.elements) parts

-- 129 places for each path
parts_short : (graph : Graph) (n : ℕ) (paths : List CheckedPath) (parts : List PathBlock) → AllByRecursion IsShortPath paths
    → AllZip IsIn parts (map (λ (numbered : ℕ × CheckedPath). path_blocks graph numbered.0 numbered.1) (enumerate_from n paths)) → length (places_of parts) ≤ 129 * length paths
parts_short graph n [] [] short are = omega arith
parts_short graph n [] (part ∷ parts) short are = absurd are
parts_short graph n (path ∷ paths) [] short are = absurd are
parts_short graph n (path ∷ paths) (part ∷ parts) short are =
    more (length (places_of (part ∷ parts))) (length part.elements) (length (places_of parts)) (longest path) (length paths)
    (length-append part.elements (places_of parts)) (part_short graph path n part are.0) short.0.short (parts_short graph (n + 1) paths parts short.1 are.1)
  where
    more : (all here rest most others : ℕ) → all ≡ here + rest → here ≤ 2 * most + 1 → most ≤ 64 → rest ≤ 129 * others → all ≤ 129 * suc others
    more all here rest most others e h few r = omega (arith, e, h, few, r)

pub block_short : (graph : Graph) (query : CheckedQuery) → length query.paths ≤ 8 → AllByRecursion IsShortPath query.paths → (block : Block) → IsIn block (blocks graph query)
    → length (flat_map (λ part. part.elements) block.paths) < 2 ^ 32
block_short graph query few short block h =
    let made = from_map (λ parts. record { paths = parts }) block (filter (is_shared query) (combinations (query_path_blocks graph query))) h in
    let kept = from_filter (is_shared query) made.0 (combinations (query_path_blocks graph query)) made.1 in
    let picks = from_combinations made.0 (query_path_blocks graph query) kept.0 in
    let places : length (places_of made.0) ≤ 129 * length query.paths = parts_short graph 0 query.paths made.0 short picks in
    subst (λ (b : Block). length (flat_map (λ part. part.elements) b.paths) < 2 ^ 32) made.2 (small (length (places_of made.0)) (length query.paths) places few)
  where
    small : (all paths : ℕ) → all ≤ 129 * paths → paths ≤ 8 → all < 2 ^ 32
    small all paths h few = omega (arith, h, few)
