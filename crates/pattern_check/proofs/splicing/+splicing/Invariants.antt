use Rattle.std.proofs.Common.{◌≡◌, drop, map}
use Rattle.std.specs.List.{flat_map}
use Rattle.graph_ast.specs.Patterns.{given_by, sequence_given}
use Rattle.pattern_check.specs.Checked.{splice, splicing}
use Rattle.pattern_check.specs.Splicing.{behind}
use Rattle.pattern_check.proofs.splicing.+splicing.Given as goal

abbrev pub invariant-add_factors-loop-factor : goal.invariant-add_factors-loop-factor
invariant-add_factors-loop-factor l =
    behind l.done (splice (map (given_by (splicing l.catalog l.graph)) (drop l.factor-index l.factors))) ≡
    behind l.fn.done (splice (map (given_by (splicing l.catalog l.graph)) l.factors))

abbrev pub invariant-add_operands-loop-operand : goal.invariant-add_operands-loop-operand
invariant-add_operands-loop-operand l =
    behind l.done (splice (flat_map (λ operand. operand) (map (sequence_given (splicing l.catalog l.graph)) (drop l.operand-index l.operands)))) ≡
    behind l.fn.done (splice (flat_map (λ operand. operand) (map (sequence_given (splicing l.catalog l.graph)) l.operands)))
