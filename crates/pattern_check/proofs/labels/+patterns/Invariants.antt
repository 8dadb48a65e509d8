use Rattle.std.proofs.Common.{◌≡◌, drop, map}
use Rattle.std.specs.List.{flat_map}
use Rattle.first_faults.specs.Faults.{first_of}
use Rattle.graph_ast.specs.Patterns.{given_by, sequence_given}
use Rattle.pattern_check.specs.NameRules.{unknown_label, labelling, row_labels}
use Rattle.pattern_check.proofs.labels.+patterns.Given as goal

abbrev pub invariant-in_factors-loop-factor : goal.invariant-in_factors-loop-factor
invariant-in_factors-loop-factor l =
    first_of l.found (flat_map (unknown_label l.graph) (row_labels (map (given_by labelling) (drop l.factor-index l.factors)))) ≡
    first_of l.fn.first (flat_map (unknown_label l.graph) (row_labels (map (given_by labelling) l.factors)))

abbrev pub invariant-in_operands-loop-operand : goal.invariant-in_operands-loop-operand
invariant-in_operands-loop-operand l =
    first_of l.found (flat_map (unknown_label l.graph) (flat_map row_labels (map (sequence_given labelling) (drop l.operand-index l.operands)))) ≡
    first_of l.fn.first (flat_map (unknown_label l.graph) (flat_map row_labels (map (sequence_given labelling) l.operands)))
