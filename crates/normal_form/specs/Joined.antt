-- Graph blocks that are found path pattern by path pattern.
use Rattle.std.specs.Prelude.{List, [], ◌∷◌, ◌++◌, map, filter}
use Rattle.graph_ast.specs.declared.checked.CheckedQuery.{CheckedQuery}
use Rattle.graph_ast.specs.declared.blocks.PathBlock.{PathBlock}
use Rattle.graph_meaning.specs.Blocks.{is_shared}

-- path blocks of the first path patterns, followed by each block of the next one with which they share what they have to
abbrev pub joined_by : CheckedQuery → List PathBlock → List PathBlock → List (List PathBlock)
joined_by query last row = filter (is_shared query) (map (λ block. row ++ block ∷ []) last)
