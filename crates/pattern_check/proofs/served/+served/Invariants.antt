use Rattle.std.proofs.Common.{◌≡◌, drop, map}
use Rattle.std.specs.List.{flat_map, list_all}
use Rattle.graph_ast.specs.Patterns.{given_by, sequence_given}
use Rattle.pattern_check.specs.Scopes.{conditions, row_conditions}
use Rattle.pattern_check.specs.Served.{is_plain}
use Rattle.pattern_check.proofs.served.+served.Given as goal

abbrev pub invariant-factors_are_plain-loop-factor : goal.invariant-factors_are_plain-loop-factor
invariant-factors_are_plain-loop-factor l =
    list_all is_plain (row_conditions (map (given_by conditions) (drop l.factor-index l.factors))) ≡ list_all is_plain (row_conditions (map (given_by conditions) l.factors))

abbrev pub invariant-operands_are_plain-loop-operand : goal.invariant-operands_are_plain-loop-operand
invariant-operands_are_plain-loop-operand l =
    list_all is_plain (flat_map row_conditions (map (sequence_given conditions) (drop l.operand-index l.operands)))
    ≡ list_all is_plain (flat_map row_conditions (map (sequence_given conditions) l.operands))
