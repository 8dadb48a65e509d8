-- Which FROM item of a block's SELECT has the row of each place.
use Rattle.std.specs.Prelude.{ℕ, List, [], ◌∷◌, take, drop, length, flat_map}
use Rattle.graph_ast.specs.declared.checked.CheckedQuery.{CheckedQuery}
use Rattle.graph_ast.specs.declared.blocks.PathBlock.{PathBlock}
use Rattle.graph_ast.specs.declared.blocks.Block.{Block}
use Rattle.graph_meaning.specs.Answers.{query_singletons}
use Rattle.path_lowering.specs.declared.plans.SelectPlan.{SelectPlan}
use Rattle.path_lowering.specs.Blocks.{plan_of}

-- the items of all places, path by path
abbrev pub items_by_path : List PathBlock → List ℕ → List (List ℕ)
items_by_path [] items = []
items_by_path (part ∷ parts) items = take (length part.elements) items ∷ items_by_path parts (drop (length part.elements) items)

abbrev pub plan_of_block : CheckedQuery → Block → SelectPlan
plan_of_block query block = record { items = items_by_path block.paths (plan_of (query_singletons query) (flat_map (λ part. part.tags) block.paths)) }
