use Rattle.std.proofs.Common.{◌≡◌, ◌++◌, drop}
use Rattle.std.specs.List.{flat_map}
use Rattle.pattern_check.specs.Mentions.{row_said}
use Rattle.pattern_check.proofs.repeats.with_operands.Given as goal

abbrev pub invariant-loop-operand : goal.invariant-loop-operand
invariant-loop-operand l = l.all ++ flat_map row_said (drop l.operand-index l.operands) ≡ l.fn.all ++ flat_map row_said l.operands
