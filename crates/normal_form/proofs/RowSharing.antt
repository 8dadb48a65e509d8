-- Rows of path blocks that are joined by the names of a query are those that share what they have to.
use Rattle.std.proofs.Common.{◌≡◌, ℕ, zero, suc, ◌+◌, ◌-◌, inl, inr, Bool, true, false, cond, List, [], ◌∷◌, ◌++◌, map, filter, flat_map, length, take, nat_eq, bytes_eq, refl}
use Rattle.std.proofs.Common.{sym, subst, ap, ap₂, ◌∙◌, arith}
use Rattle.std.specs.List.{list_any, list_all, sum_by, enumerate_from, take-map}
use Rattle.std.proofs.lemmas.List.{length-map}
use Rattle.std.proofs.lemmas.List.Sums.{sum_by-cons}
use Rattle.std.proofs.lemmas.List.FromFn.{length-enumerate_from}
use Rattle.multisets.specs.Bags.{IsIn}
use Rattle.graph_ast.specs.declared.catalog.Graph.{Graph}
use Rattle.graph_ast.specs.declared.checked.CheckedPath.{CheckedPath}
use Rattle.graph_ast.specs.declared.checked.CheckedQuery.{CheckedQuery}
use Rattle.graph_ast.specs.declared.blocks.Tags.{Tags}
use Rattle.graph_ast.specs.declared.blocks.PathBlock.{PathBlock}
use Rattle.graph_ast.specs.declared.blocks.Block.{Block}
use Rattle.graph_meaning.specs.Lists.{numbers_below, all_same, tagged, combinations}
use Rattle.graph_meaning.specs.Choices.{choices, tags_of, expansion_of, place_count}
use Rattle.graph_meaning.specs.Answers.{query_singletons}
use Rattle.graph_meaning.specs.Blocks.{Shape, same_shape, shapes_of, shapes, complete, block_of, path_blocks, query_path_blocks, is_shared, blocks}
use Rattle.graph_meaning.specs.Weights.{join_weight}
use Rattle.graph_meaning.proofs.Members.{from_map, from_flat, from_distinct, from_combinations, ArePicks}
use Rattle.graph_meaning.proofs.BlockLemmas.{same_shape_decides}
use Rattle.normal_form.specs.Rows.{BlockCost, tagged_in, tagged_along, is_joined, joined, payment, HaveSame}
use Rattle.normal_form.proofs.FollowLemmas.{filter_of_map, same_filter, feasible_long}
use Rattle.normal_form.proofs.BlocksGathered.{tags_long}
use Rattle.normal_form.proofs.Gathering.{map-parts}
use Rattle.normal_form.proofs.Merging.{map_twice}
use Rattle.normal_form.proofs.RowLemmas.{all_alike}

map_of_flat : {A B C : Type 0} (f : B → C) (g : A → List B) (xs : List A) → map f (flat_map g xs) ≡ flat_map (λ x. map f (g x)) xs
map_of_flat f g [] = refl
map_of_flat f g (x ∷ xs) = map-parts f (g x) (flat_map g xs) ∙ ap (λ l. map f (g x) ++ l) (map_of_flat f g xs)

flat_of_map : {A B C : Type 0} (f : B → List C) (g : A → B) (xs : List A) → flat_map f (map g xs) ≡ flat_map (λ x. f (g x)) xs
flat_of_map f g [] = refl
flat_of_map f g (x ∷ xs) = ap (λ l. f (g x) ++ l) (flat_of_map f g xs)

same_flat : {A B : Type 0} (f g : A → List B) → ((x : A) → f x ≡ g x) → (xs : List A) → flat_map f xs ≡ flat_map g xs
same_flat f g e [] = refl
same_flat f g e (x ∷ xs) = ap₂ (λ l m. l ++ m) (e x) (same_flat f g e xs)

map_self : {X : Type 0} (xs : List X) → map (λ x. x) xs ≡ xs
map_self [] = refl
map_self (x ∷ xs) = ap (λ l. x ∷ l) (map_self xs)

-- combinations of images are images of combinations
pub combinations_map : {A B : Type 0} (f : A → B) (lists : List (List A)) → map (map f) (combinations lists) ≡ combinations (map (map f) lists)
combinations_map f [] = refl
combinations_map {A} f (l ∷ ls) =
    map_of_flat (map f) (λ x. map (λ rest. x ∷ rest) (combinations ls)) l
    ∙ same_flat _ _ (λ (x : A). map_twice (map f) (λ rest. x ∷ rest) (combinations ls) ∙ sym (map_twice (λ rest. f x ∷ rest) (map f) (combinations ls))
    ∙ ap (map (λ rest. f x ∷ rest)) (combinations_map f ls)) l
    ∙ sym (flat_of_map (λ y. map (λ rest. y ∷ rest) (combinations (map (map f) ls))) f l)

same_sum : {X : Type 0} (f g : X → ℕ) → ((x : X) → f x ≡ g x) → (xs : List X) → sum_by f xs ≡ sum_by g xs
same_sum f g e [] = refl
same_sum f g e (x ∷ xs) = sum_by-cons f x xs ∙ ap₂ (λ a b. a + b) (e x) (same_sum f g e xs) ∙ sym (sum_by-cons g x xs)

same_filter_in : {X : Type 0} (p q : X → Bool) (xs : List X) → ((x : X) → IsIn x xs → p x ≡ q x) → filter p xs ≡ filter q xs
same_filter_in p q [] e = refl
same_filter_in p q (x ∷ xs) e = ap₂ (λ b l. cond b (x ∷ l) l) (e x (inl refl)) (same_filter_in p q xs (λ y k. e y (inr k)))

-- a path block has an element for each of its tags
abbrev pub IsEven : PathBlock → Type 0
IsEven block = length block.tags ≡ length block.elements

pub block_even : (graph : Graph) (path : CheckedPath) (place : ℕ) (block : PathBlock) → IsIn block (path_blocks graph place path) → IsEven block
block_even graph path place block h =
    let made = from_map (block_of graph path place) block (shapes graph path) h in
    let of = from_flat (shapes_of graph path) made.0 (choices path) (from_distinct same_shape same_shape_decides made.0 (flat_map (shapes_of graph path) (choices path)) made.1) in
    let assigned = from_map (λ assignment. (tags_of path of.0, assignment)) made.0 (complete graph path of.0) of.2 in
    subst IsEven made.2
    (subst (λ (s : Shape). length s.0 ≡ length s.1) assigned.2
    (tags_long graph path of.0 ∙ sym (feasible_long graph path of.0 (place_count (expansion_of path of.0)) assigned.0 assigned.1)))

tagged_parts : (name : List ℕ) (ts us : List Tags) (xs ys : List ℕ) → length ts ≡ length xs → tagged name (ts ++ us) (xs ++ ys) ≡ tagged name ts xs ++ tagged name us ys
tagged_parts name [] us [] ys h = refl
tagged_parts name [] us (x ∷ xs) ys h = absurd (omega (arith, h))
tagged_parts name (t ∷ ts) us [] ys h = absurd (omega (arith, h))
tagged_parts name (t ∷ ts) us (x ∷ xs) ys h =
    let below = tagged_parts name ts us xs ys (omega (arith, h)) in
    elim (list_any (bytes_eq name) t.names) as
    (λ b. cond b (x ∷ tagged name (ts ++ us) (xs ++ ys)) (tagged name (ts ++ us) (xs ++ ys)) ≡ cond b (x ∷ tagged name ts xs) (tagged name ts xs) ++ tagged name us ys)
    [ true ↦ ap (λ l. x ∷ l) below | false ↦ below ]

-- what is tagged in path blocks is tagged block by block
block_by_block : (name : List ℕ) (blocks : List PathBlock) → ((block : PathBlock) → IsIn block blocks → IsEven block)
    → tagged name (flat_map (λ block. block.tags) blocks) (flat_map (λ block. block.elements) blocks) ≡ flat_map (tagged_in name) blocks
block_by_block name [] even = refl
block_by_block name (b ∷ bs) even =
    tagged_parts name b.tags (flat_map (λ (block : PathBlock). block.tags) bs) b.elements (flat_map (λ (block : PathBlock). block.elements) bs) (even b (inl refl))
    ∙ ap (λ l. tagged_in name b ++ l) (block_by_block name bs (λ c k. even c (inr k)))

-- a member of a member of lists of which each member is so
picks_so : {X : Type 0} (P : X → Type 0) (lists : List (List X)) → ((list : List X) → IsIn list lists → (x : X) → IsIn x list → P x)
    → (picks : List X) → ArePicks picks lists → (x : X) → IsIn x picks → P x
picks_so P [] so [] are x h = absurd h
picks_so P [] so (p ∷ ps) are x h = absurd are
picks_so P (l ∷ ls) so [] are x h = absurd h
picks_so P (l ∷ ls) so (p ∷ ps) are x (inl e) = subst P e (so l (inl refl) p are.0)
picks_so P (l ∷ ls) so (p ∷ ps) are x (inr h) = picks_so P ls (λ m k. so m (inr k)) ps are.1 x h

from_take : {X : Type 0} (i : ℕ) (xs : List X) (x : X) → IsIn x (take i xs) → IsIn x xs
from_take zero xs x h = absurd h
from_take (suc i) [] x h = absurd h
from_take (suc i) (y ∷ ys) x (inl e) = inl e
from_take (suc i) (y ∷ ys) x (inr h) = inr (from_take i ys x h)

module _ (graph : Graph) (query : CheckedQuery) (names : List (List ℕ)) (same : HaveSame names (query_singletons query)) where
  all_even : (list : List PathBlock) → IsIn list (query_path_blocks graph query) → (block : PathBlock) → IsIn block list → IsEven block
  all_even list h block k =
      let made = from_map (λ (numbered : ℕ × CheckedPath). path_blocks graph numbered.0 numbered.1) list (enumerate_from 0 query.paths) h in
      block_even graph made.0.1 made.0.0 block (subst (IsIn block) (sym made.2) k)

  -- a row is joined where its path blocks share what they have to
  abbrev joined_by_blocks : List PathBlock → Bool
  joined_by_blocks blocks = list_all (λ name. all_same nat_eq (flat_map (tagged_in name) blocks)) names

  row_joined : (row : List BlockCost) → is_joined names row ≡ joined_by_blocks (map (λ part. part.0) row)
  row_joined row =
      all_alike (λ name. all_same nat_eq (tagged_along name row)) (λ name. all_same nat_eq (flat_map (tagged_in name) (map (λ (part : BlockCost). part.0) row))) names
      (λ name k. ap (all_same nat_eq) (sym (flat_of_map (tagged_in name) (λ (part : BlockCost). part.0) row)))

  shared_by_blocks : (blocks : List PathBlock) → ((block : PathBlock) → IsIn block blocks → IsEven block) → joined_by_blocks blocks ≡ is_shared query blocks
  shared_by_blocks blocks even =
      same (λ name. all_same nat_eq (flat_map (tagged_in name) blocks))
      ∙ all_alike (λ name. all_same nat_eq (flat_map (tagged_in name) blocks))
      (λ name. all_same nat_eq (tagged name (flat_map (λ (block : PathBlock). block.tags) blocks) (flat_map (λ (block : PathBlock). block.elements) blocks)))
      (query_singletons query)
      (λ name k. ap (all_same nat_eq) (sym (block_by_block name blocks even)))

  rows_alone : (lists : List (List BlockCost)) (whole : List (List PathBlock)) → map (map (λ part. part.0)) lists ≡ whole
      → ((list : List PathBlock) → IsIn list whole → (block : PathBlock) → IsIn block list → IsEven block)
      → map (map (λ part. part.0)) (joined names lists) ≡ filter (is_shared query) (combinations whole)
  rows_alone lists whole of even =
      let alone : List BlockCost → List PathBlock = map (λ part. part.0) in
      ap (map alone) (same_filter (is_joined names) (λ row. joined_by_blocks (alone row)) row_joined (combinations lists))
      ∙ sym (filter_of_map joined_by_blocks alone (combinations lists))
      ∙ ap (filter joined_by_blocks) (combinations_map (λ (part : BlockCost). part.0) lists ∙ ap combinations of)
      ∙ same_filter_in joined_by_blocks (is_shared query) (combinations whole) (λ row k. shared_by_blocks row (picks_so IsEven whole even row (from_combinations row whole k)))

  module _ (lists : List (List BlockCost)) (of : map (map (λ part. part.0)) lists ≡ query_path_blocks graph query) where
    -- the rows are the graph blocks
    pub joined_paths : map (map (λ part. part.0)) (joined names lists) ≡ filter (is_shared query) (combinations (query_path_blocks graph query))
    joined_paths = rows_alone lists (query_path_blocks graph query) of all_even

    first_paths : (k : ℕ) → length (joined names (take k lists)) ≡ length (filter (is_shared query) (combinations (take k (query_path_blocks graph query))))
    first_paths k =
        sym (length-map (joined names (take k lists)) (map (λ (part : BlockCost). part.0)))
        ∙ ap length (rows_alone (take k lists) (take k (query_path_blocks graph query)) (sym (take-map (map (λ (part : BlockCost). part.0)) k lists) ∙ ap (take k) of)
        (λ list h. all_even list (from_take k (query_path_blocks graph query) list h)))

    as_many : length lists ≡ length query.paths
    as_many =
        sym (length-map lists (map (λ (part : BlockCost). part.0))) ∙ ap length of
        ∙ length-map (enumerate_from 0 query.paths) (λ (numbered : ℕ × CheckedPath). path_blocks graph numbered.0 numbered.1) ∙ length-enumerate_from 0 query.paths

    -- the payment is what joining weighs
    pub payment_is : payment names lists ≡ join_weight graph query
    payment_is =
        same_sum (λ more. length (joined names (take (more + 2) lists)))
        (λ more. length (filter (is_shared query) (combinations (take (more + 2) (query_path_blocks graph query))))) (λ more. first_paths (more + 2))
        (numbers_below (length lists - 2))
        ∙ ap (λ n. sum_by (λ more. length (filter (is_shared query) (combinations (take (more + 2) (query_path_blocks graph query))))) (numbers_below (n - 2))) as_many

    -- with their costs, the rows are the graph blocks with theirs
    pub costed_rows : (cost : PathBlock → ℕ) → lists ≡ map (map (λ block. (block, cost block))) (query_path_blocks graph query)
        → joined names lists ≡ map (map (λ block. (block, cost block))) (filter (is_shared query) (combinations (query_path_blocks graph query)))
    costed_rows cost is =
        let whole : List (List PathBlock) = query_path_blocks graph query in
        let with : PathBlock → BlockCost = λ block. (block, cost block) in
        ap (joined names) is ∙ ap (filter (is_joined names)) (sym (combinations_map with whole))
        ∙ filter_of_map (is_joined names) (map with) (combinations whole)
        ∙ ap (map (map with))
        (same_filter_in (λ row. is_joined names (map with row)) (is_shared query) (combinations whole)
        (λ row k. row_joined (map with row) ∙ ap joined_by_blocks (map_twice (λ (part : BlockCost). part.0) with row ∙ map_self row)
        ∙ shared_by_blocks row (picks_so IsEven whole all_even row (from_combinations row whole k))))

    -- the rows as blocks
    pub graph_blocks : (rows : List (List BlockCost)) → rows ≡ joined names lists → map (λ row. record { paths = map (λ part. part.0) row }) rows ≡ blocks graph query
    graph_blocks rows is =
        let whole : List PathBlock → Block = λ parts. record { paths = parts } in
        sym (map_twice whole (map (λ (part : BlockCost). part.0)) rows) ∙ ap (map whole) (ap (map (map (λ (part : BlockCost). part.0))) is ∙ joined_paths)

same_map : {X Y : Type 0} (f g : X → Y) → ((x : X) → f x ≡ g x) → (xs : List X) → map f xs ≡ map g xs
same_map f g e [] = refl
same_map f g e (x ∷ xs) = ap₂ (λ a l. a ∷ l) (e x) (same_map f g e xs)

-- path blocks that cost nothing
pub free_alone : (lists whole : List (List PathBlock)) (parts : List (List BlockCost)) → lists ≡ whole → parts ≡ map (map (λ block. (block, 0))) lists
    → map (map (λ part. part.0)) parts ≡ whole
free_alone lists whole parts of is =
    ap (map (map (λ (part : BlockCost). part.0))) is
    ∙ map_twice (map (λ (part : BlockCost). part.0)) (map (λ block. (block, 0))) lists
    ∙ same_map (λ (l : List PathBlock). map (λ (part : BlockCost). part.0) (map (λ block. (block, 0)) l)) (λ l. l)
    (λ l. map_twice (λ (part : BlockCost). part.0) (λ block. (block, 0)) l ∙ map_self l) lists
    ∙ map_self lists ∙ of
