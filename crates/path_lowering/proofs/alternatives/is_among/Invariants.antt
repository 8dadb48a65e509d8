use Rattle.std.proofs.Common.{◌≡◌, drop}
use Rattle.path_lowering.specs.Apart.{is_among}
use Rattle.path_lowering.proofs.alternatives.is_among.Given as goal

abbrev pub invariant-loop-other : goal.invariant-loop-other
invariant-loop-other l = is_among (drop l.other-index l.conditions) l.condition ≡ is_among l.conditions l.condition
