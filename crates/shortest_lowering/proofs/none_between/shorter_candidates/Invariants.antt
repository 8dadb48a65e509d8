use Rattle.std.proofs.Common.{◌≡◌, ◌++◌, map, filter, drop}
use Rattle.shortest_lowering.specs.NoShorter.{is_shorter}
use Rattle.shortest_lowering.proofs.none_between.shorter_candidates.Given as goal

abbrev pub invariant-loop-other : goal.invariant-loop-other
invariant-loop-other l = map (λ c. c.now) l.all ++ filter (is_shorter l.own) (drop l.other-index l.candidates) ≡ filter (is_shorter l.own) l.candidates
