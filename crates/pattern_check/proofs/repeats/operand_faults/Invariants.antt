use Rattle.std.proofs.Common.{◌≡◌, [], drop, map}
use Rattle.first_faults.specs.Faults.{first_of}
use Rattle.pattern_check.specs.Mentions.{said}
use Rattle.pattern_check.specs.Repeats.{operand_faults}
use Rattle.pattern_check.proofs.repeats.operand_faults.Given as goal

abbrev pub invariant-loop-m : goal.invariant-loop-m
invariant-loop-m l =
    first_of l.found (operand_faults l.settled l.others l.here (map said (drop l.m-index l.operand))) ≡
    first_of l.fn.first (operand_faults l.settled l.others [] (map said l.operand))
