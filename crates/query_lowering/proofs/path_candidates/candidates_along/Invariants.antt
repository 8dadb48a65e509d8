use Rattle.std.proofs.Common.{◌≡◌, map, take}
use Rattle.shortest_lowering.specs.PathCandidates.{path_candidate}
use Rattle.query_lowering.proofs.path_candidates.candidates_along.Given as goal

abbrev pub invariant-loop-block : goal.invariant-loop-block
invariant-loop-block l = l.all ≡ map (path_candidate l.catalog l.graph l.path) (take l.block-index l.blocks)
