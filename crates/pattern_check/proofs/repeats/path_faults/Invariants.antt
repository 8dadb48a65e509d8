use Rattle.std.proofs.Common.{◌≡◌, [], drop, map}
use Rattle.first_faults.specs.Faults.{first_of}
use Rattle.pattern_check.specs.Mentions.{row_said}
use Rattle.pattern_check.specs.Repeats.{path_faults}
use Rattle.pattern_check.proofs.repeats.path_faults.Given as goal

abbrev pub invariant-loop-operand : goal.invariant-loop-operand
invariant-loop-operand l =
    first_of l.found (path_faults l.settled l.others (map row_said (drop l.operand-index l.operands))) ≡
    first_of l.fn.first (path_faults l.settled [] (map row_said l.operands))
