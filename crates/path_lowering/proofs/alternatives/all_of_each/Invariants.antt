use Rattle.std.proofs.Common.{◌≡◌, map}
use Rattle.path_lowering.specs.Emitted.{all_of}
use Rattle.path_lowering.proofs.alternatives.all_of_each.Given as goal

abbrev pub invariant-loop-rest : goal.invariant-loop-rest
invariant-loop-rest l = l.made.items ≡ map all_of (map (λ a. a.items) l.yielded)
