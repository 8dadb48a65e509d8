-- What graph blocks weigh, from what their path blocks cost.
use Rattle.std.proofs.Common.{◌≡◌, ℕ, zero, suc, ◌+◌, ◌-◌, ◌*◌, ◌<◌, ◌≤◌, Bool, true, false, cond, nat_lt, List, [], ◌∷◌, ◌++◌, map, flat_map, drop, take, length, get_or}
use Rattle.std.proofs.Common.{slice_index_or, Option, None, Some, refl, ap, ap₂, sym, subst, ◌∙◌, arith, append_assoc, filter}
use Rattle.std.proofs.Math.Nat.{zero-add, add-zero, mul-zero, mul-suc, mul_comm, le-mul_of_pos_right}
use Rattle.std.specs.List.{sum_by, list_all, enumerate_from}
use Rattle.std.proofs.lemmas.List.{drop_more}
use Rattle.std.proofs.lemmas.List.Sums.{sum_by-cons, sum_by_more}
use Rattle.graph_ast.specs.declared.catalog.Graph.{Graph}
use Rattle.graph_ast.specs.declared.checked.CheckedPath.{CheckedPath}
use Rattle.graph_ast.specs.declared.checked.CheckedQuery.{CheckedQuery}
use Rattle.graph_ast.specs.declared.blocks.PathBlock.{PathBlock}
use Rattle.graph_meaning.specs.Lists.{combinations}
use Rattle.graph_meaning.specs.Choices.{singletons_of}
use Rattle.graph_meaning.specs.Answers.{query_singletons}
use Rattle.graph_meaning.specs.Blocks.{shapes, block_of, path_blocks, query_path_blocks, is_shared, blocks}
use Rattle.graph_meaning.specs.Weights.{block_size, shortest_weight, path_at, answer_nodes, block_weight, join_weight, prefix_weight, place_weight}
use Rattle.normal_form.specs.declared.rows.Costed.{Costed}
use Rattle.normal_form.specs.declared.joined.Joined.{Joined}
use Rattle.normal_form.specs.Join.{AreJoined}
use Rattle.normal_form.specs.Rows.{BlockCost, HaveSame, seen, joined, payment}
use Rattle.normal_form.specs.Spending.{spent, at_most, counted}
use Rattle.normal_form.specs.Costs.{cost_among, part_weight, with_cost, with_costs}
use Rattle.normal_form.specs.RowWeights.{costs_along, AreBought}
use Rattle.normal_form.specs.Weighing.{assignments_weight}
use Rattle.normal_form.proofs.SizeLemmas.{counted_again, sum_counted, sum_left, sum_right}
use Rattle.normal_form.proofs.PayLemmas.{paid, unpaid, above_limit, spent_of_limit, spent_counted, sum_of_both}
use Rattle.normal_form.proofs.RowSharing.{costed_rows, payment_is}
use Rattle.normal_form.proofs.Gathering.{map-parts}
use Rattle.normal_form.proofs.Merging.{map_twice}

-- ---- sums

pub sum_of_map : {A B : Type 0} (f : B → ℕ) (g : A → B) (xs : List A) → sum_by f (map g xs) ≡ sum_by (λ x. f (g x)) xs
sum_of_map f g [] = refl
sum_of_map f g (x ∷ xs) = sum_by-cons f (g x) (map g xs) ∙ ap (λ n. f (g x) + n) (sum_of_map f g xs) ∙ sym (sum_by-cons (λ y. f (g y)) x xs)

-- sums that are counted alike member by member are counted alike
pub counted_alike : {X : Type 0} (f g : X → ℕ) → ((x : X) → counted (f x) ≡ counted (g x)) → (xs : List X) → counted (sum_by f xs) ≡ counted (sum_by g xs)
counted_alike f g each [] = refl
counted_alike f g each (x ∷ xs) =
    ap counted (sum_by-cons f x xs)
    ∙ sym (sum_counted (f x) (sum_by f xs))
    ∙ ap₂ (λ a b. counted (a + b)) (each x) (counted_alike f g each xs)
    ∙ sum_counted (g x) (sum_by g xs)
    ∙ sym (ap counted (sum_by-cons g x xs))

sum_of_none : {X : Type 0} (xs : List X) → sum_by (λ x. 0) xs ≡ 0
sum_of_none [] = refl
sum_of_none (x ∷ xs) = sum_by-cons (λ y. 0) x xs ∙ zero-add (sum_by (λ y. 0) xs) ∙ sum_of_none xs

sum_if : {X : Type 0} (b : Bool) (f : X → ℕ) (xs : List X) → sum_by (λ x. cond b (f x) 0) xs ≡ cond b (sum_by f xs) 0
sum_if true f xs = refl
sum_if false f xs = sum_of_none xs

-- at least so much in each of so many
pub in_each : {X : Type 0} (answer : ℕ) (f : X → ℕ) (xs : List X) → answer * length xs ≤ sum_by (λ x. answer + f x) xs
in_each answer f [] = let none = mul-zero answer in omega (arith, none)
in_each answer f (x ∷ xs) =
    let below = in_each answer f xs in
    let whole = sum_by-cons (λ y. answer + f y) x xs in
    let one = mul-suc answer (length xs) in
    omega (arith, below, whole, one)

-- ---- the costs of path blocks

same_images : {A B C : Type 0} (f g : B → C) (made : A → B) → ((x : A) → f (made x) ≡ g (made x)) → (xs : List A) → map f (map made xs) ≡ map g (map made xs)
same_images f g made each [] = refl
same_images f g made each (x ∷ xs) = ap₂ (λ a l. a ∷ l) (each x) (same_images f g made each xs)

-- how the costs of all path patterns go on by one
pub costs_on : (several : Bool) (paths : List CheckedPath) (lists : List (List PathBlock)) (i : ℕ) (path : CheckedPath) (blocks : List PathBlock)
    (done more whole : List (List BlockCost)) (own : List BlockCost) → i < length paths → i < length lists → path ≡ get_or paths i path → blocks ≡ get_or lists i blocks
    → own ≡ map (λ block. (block, counted (cost_among several path blocks block))) blocks → more ≡ done ++ own ∷ []
    → done ++ with_costs several (drop i paths) (drop i lists) ≡ whole → more ++ with_costs several (drop (i + 1) paths) (drop (i + 1) lists) ≡ whole
costs_on several paths lists i path blocks done more whole own inside within at there made pushed before =
    let made_of : CheckedPath → List PathBlock → List BlockCost = λ p bs. map (λ (block : PathBlock). (block, counted (cost_among several p bs block))) bs in
    let rest = with_costs several (drop (i + 1) paths) (drop (i + 1) lists) in
    ap (λ l. l ++ rest) (pushed ∙ ap (λ z. done ++ z ∷ []) made)
    ∙ append_assoc done (made_of path blocks ∷ []) rest
    ∙ ap₂ (λ p bs. done ++ made_of p bs ∷ rest) at there
    ∙ sym (ap₂ (λ ps ls. done ++ with_costs several ps ls) (drop_more paths i path inside) (drop_more lists i blocks within))
    ∙ before

module _ (graph : Graph) (query : CheckedQuery) where
  abbrev several : Bool
  several = nat_lt 1 (length query.paths)

  own_costs : (place : ℕ) → map (λ block. (block, counted (cost_among several (path_at query place) (path_blocks graph place (path_at query place)) block)))
      (path_blocks graph place (path_at query place)) ≡ map (with_cost graph query) (path_blocks graph place (path_at query place))
  own_costs place =
      let path = path_at query place in
      same_images (λ block. (block, counted (cost_among several path (path_blocks graph place path) block))) (with_cost graph query) (block_of graph path place) (λ shape. refl)
      (shapes graph path)

  costs_from : (paths : List CheckedPath) (i : ℕ) → ((j : ℕ) (d : CheckedPath) → j < length paths → path_at query (i + j) ≡ get_or paths j d)
      → with_costs several paths (map (λ numbered. path_blocks graph numbered.0 numbered.1) (enumerate_from i paths))
      ≡ map (map (with_cost graph query)) (map (λ numbered. path_blocks graph numbered.0 numbered.1) (enumerate_from i paths))
  costs_from [] i at = refl
  costs_from (path ∷ paths) i at =
      let first : path_at query i ≡ path = ap (path_at query) (sym (add-zero i)) ∙ at 0 path (omega arith) in
      ap₂ (λ l ls. l ∷ ls)
      (subst (λ (p : CheckedPath). map (λ block. (block, counted (cost_among several p (path_blocks graph i p) block))) (path_blocks graph i p)
      ≡ map (with_cost graph query) (path_blocks graph i p)) first (own_costs i))
      (costs_from paths (i + 1) (λ j d h. let next : i + 1 + j ≡ i + (j + 1) = omega arith in ap (path_at query) next ∙ at (j + 1) d (omega (arith, h)) ∙ shifted path paths j d))
    where
      shifted : {X : Type 0} (x : X) (xs : List X) (j : ℕ) (d : X) → get_or (x ∷ xs) (j + 1) d ≡ get_or xs j d
      shifted x xs j d = let e : j + 1 ≡ suc j = omega arith in ap (λ k. get_or (x ∷ xs) k d) e

  inside_any : {X : Type 0} (xs : List X) (j : ℕ) (d e : X) → j < length xs → slice_index_or xs j e ≡ get_or xs j d
  inside_any [] j d e h = absurd (omega arith)
  inside_any (x ∷ xs) zero d e h = refl
  inside_any (x ∷ xs) (suc j) d e h = inside_any xs j d e (omega arith)

  pub costs_are : with_costs several query.paths (query_path_blocks graph query) ≡ map (map (with_cost graph query)) (query_path_blocks graph query)
  costs_are = costs_from query.paths 0 (λ j d h. ap (path_at query) (zero-add j) ∙ inside_any query.paths j d _ h)

  -- ---- graph blocks

  -- the nodes of the answer and the costs of a graph block's path blocks are its weight
  row_is : (answer : ℕ) → answer ≡ counted (answer_nodes query) → (parts : List PathBlock)
      → counted (answer + costs_along (map (with_cost graph query) parts)) ≡ counted (block_weight graph query (record { paths = parts }))
  row_is answer a parts =
      let own = part_weight graph query in
      let sizes : PathBlock → ℕ = λ part. cond several (block_size (path_at query part.path) part) 0 in
      let size : PathBlock → ℕ = λ part. block_size (path_at query part.path) part in
      let costs : counted (costs_along (map (with_cost graph query) parts)) ≡ counted (sum_by own parts) =
      ap counted (sum_of_map (λ (part : BlockCost). part.1) (with_cost graph query) parts)
      ∙ counted_alike (λ part. counted (own part)) own (λ part. counted_again (own part)) parts in
      let split : sum_by own parts ≡ cond several (sum_by size parts) 0 + sum_by (shortest_weight graph query) parts =
      sum_of_both sizes (shortest_weight graph query) parts ∙ ap (λ n. n + sum_by (shortest_weight graph query) parts) (sum_if several size parts) in
      ap (λ n. counted (n + costs_along (map (with_cost graph query) parts))) a
      ∙ sum_left (answer_nodes query) (costs_along (map (with_cost graph query) parts))
      ∙ sym (sum_right (answer_nodes query) (costs_along (map (with_cost graph query) parts)))
      ∙ ap (λ n. counted (answer_nodes query + n)) costs
      ∙ sum_right (answer_nodes query) (sum_by own parts)
      ∙ ap (λ n. counted (answer_nodes query + n)) split
      ∙ ap counted (three (answer_nodes query) (cond several (sum_by size parts) 0) (sum_by (shortest_weight graph query) parts))
    where
      three : (a b c : ℕ) → a + (b + c) ≡ a + b + c
      three a b c = omega arith

  module _ (names : List (List ℕ)) (same : HaveSame names (query_singletons query)) (lists : List (List BlockCost))
      (is : lists ≡ map (map (with_cost graph query)) (query_path_blocks graph query)) where
    alone : map (map (λ part. part.0)) lists ≡ query_path_blocks graph query
    alone =
        ap (map (map (λ (part : BlockCost). part.0))) is
        ∙ map_twice (map (λ (part : BlockCost). part.0)) (map (with_cost graph query)) (query_path_blocks graph query)
        ∙ unchanged (λ list. map (λ (part : BlockCost). part.0) (map (with_cost graph query) list))
        (λ list. map_twice (λ (part : BlockCost). part.0) (with_cost graph query) list ∙ unchanged (λ block. block) (λ block. refl) list) (query_path_blocks graph query)
      where
        unchanged : {X : Type 0} (f : X → X) → ((x : X) → f x ≡ x) → (xs : List X) → map f xs ≡ xs
        unchanged f each [] = refl
        unchanged f each (x ∷ xs) = ap₂ (λ a l. a ∷ l) (each x) (unchanged f each xs)

    -- what joining and its rows cost is what graph blocks weigh, as far as an amount goes
    pub rows_are : (answer amount : ℕ) → answer ≡ counted (answer_nodes query) → amount ≤ 1000000
        → spent amount (payment names lists + sum_by (λ row. answer + costs_along row) (joined names lists))
        ≡ spent amount (sum_by (block_weight graph query) (blocks graph query) + join_weight graph query)
    rows_are answer amount a few =
        let shared : List (List PathBlock) = filter (is_shared query) (combinations (query_path_blocks graph query)) in
        let own : List BlockCost → ℕ = λ row. answer + costs_along row in
        let whole : List PathBlock → ℕ = λ parts. block_weight graph query (record { paths = parts }) in
        let rows : counted (sum_by own (joined names lists)) ≡ counted (sum_by (block_weight graph query) (blocks graph query)) =
        ap (λ l. counted (sum_by own l)) (costed_rows graph query names same lists alone (λ block. counted (part_weight graph query block)) is)
        ∙ ap counted (sum_of_map own (map (with_cost graph query)) shared)
        ∙ counted_alike (λ parts. own (map (with_cost graph query) parts)) whole (row_is answer a) shared
        ∙ sym (ap counted (sum_of_map (block_weight graph query) (λ (parts : List PathBlock). record { paths = parts }) shared)) in
        sym (spent_counted amount (payment names lists + sum_by own (joined names lists)) few)
        ∙ ap (spent amount) (sym (sum_right (payment names lists) (sum_by own (joined names lists)))
        ∙ ap₂ (λ p r. counted (p + r)) (payment_is graph query names same lists alone) rows
        ∙ sum_right (join_weight graph query) (sum_by (block_weight graph query) (blocks graph query))
        ∙ ap counted (swapped (join_weight graph query) (sum_by (block_weight graph query) (blocks graph query))))
        ∙ spent_counted amount (sum_by (block_weight graph query) (blocks graph query) + join_weight graph query) few
      where
        swapped : (a b : ℕ) → a + b ≡ b + a
        swapped a b = omega arith

-- ---- rows as the code has them

pub seen_rows : (answer : ℕ) (rows : List (List Costed))
    → sum_by (λ row. answer + sum_by (λ part. part.cost) row) rows ≡ sum_by (λ row. answer + costs_along row) (map (map seen) rows)
seen_rows answer [] = refl
seen_rows answer (row ∷ rows) =
    sum_by-cons (λ (r : List Costed). answer + sum_by (λ (part : Costed). part.cost) r) row rows
    ∙ ap₂ (λ a b. answer + a + b) (sym (sum_of_map (λ (part : BlockCost). part.1) seen row)) (seen_rows answer rows)
    ∙ sym (sum_by-cons (λ r. answer + costs_along r) (map seen row) (map (map seen) rows))

-- a row's costs, one more
pub cost_on : {X : Type 0} (f : X → ℕ) (xs : List X) (i : ℕ) (x : X) (answer total : ℕ) → i < length xs → x ≡ get_or xs i x → total ≡ counted (answer + sum_by f (take i xs))
    → counted (total + f x) ≡ counted (answer + sum_by f (take (i + 1) xs))
cost_on f xs i x answer total inside is so_far =
    ap (λ n. counted (n + f x)) so_far
    ∙ sum_left (answer + sum_by f (take i xs)) (f x)
    ∙ ap counted (three answer (sum_by f (take i xs)) (f x))
    ∙ sym (ap (λ n. counted (answer + n)) (sum_by_more f xs i x inside ∙ ap (λ y. sum_by f (take i xs) + f y) (sym is)))
  where
    three : (a b c : ℕ) → a + b + c ≡ a + (b + c)
    three a b c = omega arith

-- where a row costs something, joining against an amount is what it takes to pay for the rows
pub bought : (names : List (List ℕ)) (lists : List (List BlockCost)) (answer amount : ℕ) (all : Option Joined) → 0 < answer → AreJoined names lists amount all
    → AreBought names lists answer amount all
bought names lists answer amount None some h =
    let count = length (joined names lists) in
    let more : count ≤ count * answer = le-mul_of_pos_right count some in
    let same = mul_comm answer count in omega (arith, h, more, same)
bought names lists answer amount (Some all) some h = record { rows = h.rows; left = paid amount (payment names lists) all.left h.left }

pub seen_end : (done : List (List Costed)) (own : List Costed) (more : List (List Costed)) → more ≡ done ++ own ∷ []
    → map (map seen) more ≡ map (map seen) done ++ map seen own ∷ []
seen_end done own more is = ap (map (map seen)) is ∙ map-parts (map seen) done (own ∷ [])

-- ---- the whole weight

abbrev pub weight_in : Graph → CheckedQuery → ℕ
weight_in graph query =
    sum_by (prefix_weight graph) query.paths + sum_by (place_weight graph) query.paths + sum_by (block_weight graph query) (blocks graph query) + join_weight graph query

-- what is weighed of the rows is weighed of the graph blocks
pub rows_weighed : (graph element : Graph) (query : CheckedQuery) (paths : List CheckedPath) (lists : List (List PathBlock)) (names : List (List ℕ)) (parts : List (List BlockCost))
    (answer amount : ℕ) (result : Option ℕ) → element ≡ graph → paths ≡ query.paths → HaveSame names (flat_map singletons_of paths)
    → lists ≡ map (λ numbered. path_blocks element numbered.0 numbered.1) (enumerate_from 0 paths) → parts ≡ with_costs (nat_lt 1 (length paths)) paths lists
    → answer ≡ counted (answer_nodes query) → amount ≤ 1000000
    → result ≡ spent amount (payment names parts + sum_by (λ row. answer + costs_along row) (joined names parts))
    → result ≡ spent amount (sum_by (block_weight graph query) (blocks graph query) + join_weight graph query)
rows_weighed graph element query paths lists names parts answer amount result here there same found costs a few is =
    let shared : HaveSame names (query_singletons query) = λ p. same p ∙ ap (λ (ps : List CheckedPath). list_all p (flat_map singletons_of ps)) there in
    let all : lists ≡ query_path_blocks graph query =
    found ∙ ap₂ (λ (g : Graph) (ps : List CheckedPath). map (λ (numbered : ℕ × CheckedPath). path_blocks g numbered.0 numbered.1) (enumerate_from 0 ps)) here there in
    let with : parts ≡ map (map (with_cost graph query)) (query_path_blocks graph query) =
    costs ∙ ap₂ (λ (ps : List CheckedPath) (ls : List (List PathBlock)). with_costs (nat_lt 1 (length ps)) ps ls) there all ∙ costs_are graph query in
    is ∙ rows_are graph query names shared parts with answer amount a few

module _ (limit : ℕ) (graph element : Graph) (query : CheckedQuery) (paths : List CheckedPath) (here : element ≡ graph) (there : paths ≡ query.paths) where
  assignments : sum_by (assignments_weight element) paths ≡ sum_by (prefix_weight graph) query.paths + sum_by (place_weight graph) query.paths
  assignments = ap₂ (λ (g : Graph) (ps : List CheckedPath). sum_by (assignments_weight g) ps) here there ∙ sum_of_both (prefix_weight graph) (place_weight graph) query.paths

  abbrev joins_weight : ℕ
  joins_weight = sum_by (block_weight graph query) (blocks graph query) + join_weight graph query

  pub over_assignments : limit < sum_by (assignments_weight element) paths → None ≡ at_most limit (weight_in graph query)
  over_assignments h =
      let over : limit < weight_in graph query = let is = assignments in omega (arith, is, h) in sym (above_limit limit (weight_in graph query) over)

  pub over_rows : (left : ℕ) → left + sum_by (assignments_weight element) paths ≡ limit → spent left joins_weight ≡ None → None ≡ at_most limit (weight_in graph query)
  over_rows left h e =
      let rest = unpaid left joins_weight e in
      let over : limit < weight_in graph query = let is = assignments in omega (arith, is, h, rest) in sym (above_limit limit (weight_in graph query) over)

  pub all_paid : (left rest : ℕ) → left + sum_by (assignments_weight element) paths ≡ limit → spent left joins_weight ≡ Some rest
      → Some (limit - rest) ≡ at_most limit (weight_in graph query)
  all_paid left rest h e =
      let sum = paid left joins_weight rest e in
      let whole : rest + weight_in graph query ≡ limit = let is = assignments in omega (arith, is, h, sum) in sym (spent_of_limit limit rest (weight_in graph query) whole)

  pub left_within : (left : ℕ) → left + sum_by (assignments_weight element) paths ≡ limit → left ≤ limit
  left_within left h = omega (arith, h)
