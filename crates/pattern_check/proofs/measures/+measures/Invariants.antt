use Rattle.std.proofs.Common.{◌≡◌, drop, map}
use Rattle.graph_ast.specs.Patterns.{given_by, sequence_given}
use Rattle.pattern_check.specs.SizeRules.{chained, either, sequence_measure, union_measure, measuring, counted_measure}
use Rattle.pattern_check.proofs.measures.+measures.Given as goal

abbrev pub invariant-factors_measure-loop-factor : goal.invariant-factors_measure-loop-factor
invariant-factors_measure-loop-factor l =
    (l.total ≡ counted_measure l.total) ×
    (counted_measure (chained l.total (sequence_measure (map (given_by measuring) (drop l.factor-index l.factors)))) ≡
    counted_measure (sequence_measure (map (given_by measuring) l.factors)))

abbrev pub invariant-operands_measure-loop-operand : goal.invariant-operands_measure-loop-operand
invariant-operands_measure-loop-operand l =
    (l.total ≡ counted_measure l.total) ×
    (counted_measure (either l.total (union_measure (map sequence_measure (map (sequence_given measuring) (drop l.operand-index l.operands))))) ≡
    counted_measure (union_measure (map sequence_measure (map (sequence_given measuring) l.operands))))
