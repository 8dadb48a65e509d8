use Rattle.std.proofs.Common.{◌≡◌, ◌++◌, map, drop}
use Rattle.std.specs.List.{enumerate_from}
use Rattle.graph_ast.specs.Lookups.{graph_at}
use Rattle.graph_meaning.specs.Blocks.{path_blocks, query_path_blocks}
use Rattle.query_lowering.proofs.block_lists.candidates_of.Given as goal

abbrev pub invariant-loop-place : goal.invariant-loop-place
invariant-loop-place l =
    l.all ++ map (λ numbered. path_blocks (graph_at l.catalog l.query.graph) numbered.0 numbered.1) (enumerate_from l.place (drop l.place l.query.paths))
    ≡ query_path_blocks (graph_at l.catalog l.query.graph) l.query
