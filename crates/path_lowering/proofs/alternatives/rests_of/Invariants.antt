use Rattle.std.proofs.Common.{◌≡◌, ◌++◌, map}
use Rattle.path_lowering.specs.Apart.{without}
use Rattle.path_lowering.proofs.alternatives.rests_of.Given as goal

abbrev pub invariant-loop-other : goal.invariant-loop-other
invariant-loop-other l = map (λ a. a.items) l.rests.items ≡ map (λ a. a.items) l.initial.rests.items ++ map (without l.common) (map (λ a. a.items) l.yielded)
