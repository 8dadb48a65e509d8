use Rattle.std.proofs.Common.{◌≡◌, ◌++◌, map, drop}
use Rattle.std.specs.List.{enumerate_from}
use Rattle.graph_meaning.specs.Blocks.{path_blocks}
use Rattle.normal_form.proofs.joined.path_lists.Given as goal

abbrev pub invariant-loop-place : goal.invariant-loop-place
invariant-loop-place l = l.lists ++ map (λ numbered. path_blocks l.graph numbered.0 numbered.1) (enumerate_from l.place (drop l.place l.paths))
    ≡ map (λ numbered. path_blocks l.graph numbered.0 numbered.1) (enumerate_from 0 l.paths)
