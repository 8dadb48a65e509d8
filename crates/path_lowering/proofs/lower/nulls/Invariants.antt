use Rattle.std.proofs.Common.{◌≡◌, map, take}
use Rattle.path_lowering.specs.Adding.{null_of}
use Rattle.path_lowering.proofs.lower.nulls.Given as goal

abbrev pub invariant-loop-output : goal.invariant-loop-output
invariant-loop-output l = l.made ≡ map null_of (take l.output-index l.outputs)
