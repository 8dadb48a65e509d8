-- What path blocks cost in a graph block.
use Rattle.std.specs.Prelude.{ℕ, ◌+◌, Bool, cond, nat_lt, List, [], ◌∷◌, length, map}
use Rattle.graph_ast.specs.declared.catalog.Graph.{Graph}
use Rattle.graph_ast.specs.declared.checked.CheckedPath.{CheckedPath}
use Rattle.graph_ast.specs.declared.checked.CheckedQuery.{CheckedQuery}
use Rattle.graph_ast.specs.declared.blocks.PathBlock.{PathBlock}
use Rattle.graph_meaning.specs.Weights.{block_size, shortest_weight, path_at}
use Rattle.normal_form.specs.Spending.{counted}
use Rattle.normal_form.specs.Candidates.{candidate_sizes}

-- what a path block costs among those of its path pattern: its size where there are more path patterns than one, and under ALL SHORTEST those of its candidates
abbrev pub cost_among : Bool → CheckedPath → List PathBlock → PathBlock → ℕ
cost_among several path blocks block = cond several (block_size path block) 0 + cond path.all_shortest (candidate_sizes path blocks block) 0

-- the same in a query, which has the path block's path pattern and all path blocks of that
abbrev pub part_weight : Graph → CheckedQuery → PathBlock → ℕ
part_weight graph query part = cond (nat_lt 1 (length query.paths)) (block_size (path_at query part.path) part) 0 + shortest_weight graph query part

-- a path block, and its cost as far as 64 bits hold it
abbrev pub with_cost : Graph → CheckedQuery → PathBlock → PathBlock × ℕ
with_cost graph query part = (part, counted (part_weight graph query part))

-- the path blocks of each path pattern with their costs
abbrev pub with_costs : Bool → List CheckedPath → List (List PathBlock) → List (List (PathBlock × ℕ))
with_costs several [] lists = []
with_costs several (path ∷ paths) [] = []
with_costs several (path ∷ paths) (blocks ∷ lists) = map (λ block. (block, counted (cost_among several path blocks block))) blocks ∷ with_costs several paths lists
