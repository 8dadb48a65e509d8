use Rattle.std.proofs.Common.{◌≡◌, ◌++◌, map, drop}
use Rattle.shortest_lowering.specs.NoShorter.{none_between}
use Rattle.shortest_lowering.proofs.none_between.none_between.Given as goal

abbrev pub invariant-loop-candidate : goal.invariant-loop-candidate
invariant-loop-candidate l =
    l.all ++ none_between l.first l.last (map (λ c. c.now) (drop l.candidate-index l.candidates)) ≡ none_between l.first l.last (map (λ c. c.now) l.candidates)
