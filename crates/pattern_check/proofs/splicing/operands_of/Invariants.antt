use Rattle.std.proofs.Common.{◌≡◌, ◌++◌, drop, map}
use Rattle.graph_ast.specs.Patterns.{sequence_given}
use Rattle.pattern_check.specs.Checked.{splice, splicing}
use Rattle.pattern_check.proofs.splicing.operands_of.Given as goal

abbrev pub invariant-loop-operand : goal.invariant-loop-operand
invariant-loop-operand l =
    l.made ++ map splice (map (sequence_given (splicing l.catalog l.graph)) (drop l.operand-index l.operands)) ≡
    map splice (map (sequence_given (splicing l.catalog l.graph)) l.operands)
