-- The SELECT of a block, from its parts.
use Rattle.std.proofs.Common.{◌≡◌, ℕ, List, ◌++◌, ap₂, ◌∙◌}
use Rattle.graph_ast.specs.declared.catalog.Catalog.{Catalog}
use Rattle.graph_ast.specs.declared.catalog.Graph.{Graph}
use Rattle.graph_ast.specs.declared.checked.CheckedQuery.{CheckedQuery}
use Rattle.graph_ast.specs.declared.blocks.Tags.{Tags}
use Rattle.graph_ast.specs.declared.blocks.Block.{Block}
use Rattle.graph_meaning.specs.Answers.{query_singletons}
use Rattle.path_lowering.specs.declared.spots.Spot.{Spot}
use Rattle.path_lowering.specs.Emitted.{SqlCondition, sharing_conditions}
use Rattle.path_lowering.specs.Blocks.{laid_tags, laid_spots, where_for}
use Rattle.path_lowering.specs.Selects.{select_with}
use Rattle.path_lowering.specs.Lowered.{laid_block, select_of_block}
use Rattle.path_lowering.specs.Apart.{apart}
use Rattle.path_lowering.specs.Adding.{conditions_of, conditions_along}

pub select_is : (catalog : Catalog) (graph : Graph) (prefix : ℕ) (query : CheckedQuery) (block : Block) (tags : List Tags) (spots : List Spot) (conditions : List SqlCondition)
    (names : List (List ℕ))
    → tags ≡ laid_tags (laid_block catalog graph prefix apart query block) → spots ≡ laid_spots (laid_block catalog graph prefix apart query block)
    → conditions ≡ conditions_along catalog graph prefix (laid_block catalog graph prefix apart query block) → names ≡ query_singletons query
    → select_with catalog graph prefix tags spots
    (conditions ++ (sharing_conditions catalog graph prefix names tags spots ++ where_for catalog graph prefix tags spots query.condition)) query.columns
    ≡ select_of_block catalog graph prefix apart query block
unfolding conditions_of
select_is catalog graph prefix query block tags spots conditions names t s c n =
    ap₂ (λ x y. select_with catalog graph prefix x y (conditions ++ (sharing_conditions catalog graph prefix names x y ++ where_for catalog graph prefix x y query.condition))
    query.columns) t s
    ∙ ap₂ (λ x y. select_with catalog graph prefix (laid_tags (laid_block catalog graph prefix apart query block)) (laid_spots (laid_block catalog graph prefix apart query block))
    (x ++ (sharing_conditions catalog graph prefix y (laid_tags (laid_block catalog graph prefix apart query block))
    (laid_spots (laid_block catalog graph prefix apart query block))
    ++ where_for catalog graph prefix (laid_tags (laid_block catalog graph prefix apart query block)) (laid_spots (laid_block catalog graph prefix apart query block))
    query.condition)) query.columns) c n
