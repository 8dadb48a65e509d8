use Rattle.std.proofs.Common.{◌≡◌}
use Rattle.path_lowering.specs.Apart.{without}
use Rattle.path_lowering.proofs.alternatives.without.Given as goal

abbrev pub invariant-loop-condition : goal.invariant-loop-condition
invariant-loop-condition l = l.rest.items ≡ without l.common l.yielded
