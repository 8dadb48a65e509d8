use Rattle.std.proofs.Common.{◌≡◌, drop, map}
use Rattle.std.specs.List.{flat_map}
use Rattle.first_faults.specs.Faults.{first_of}
use Rattle.graph_ast.specs.Patterns.{given_by, sequence_given}
use Rattle.pattern_check.specs.Scopes.{conditions, row_conditions}
use Rattle.pattern_check.specs.TypeRules.{leaf_class, where_faults}
use Rattle.pattern_check.proofs.wheres.+wheres.Given as goal

abbrev pub invariant-in_factors-loop-factor : goal.invariant-in_factors-loop-factor
invariant-in_factors-loop-factor l =
    first_of l.found (flat_map (where_faults (leaf_class l.catalog l.graph)) (row_conditions (map (given_by conditions) (drop l.factor-index l.factors)))) ≡
    first_of l.fn.first (flat_map (where_faults (leaf_class l.catalog l.graph)) (row_conditions (map (given_by conditions) l.factors)))

abbrev pub invariant-in_operands-loop-operand : goal.invariant-in_operands-loop-operand
invariant-in_operands-loop-operand l =
    first_of l.found (flat_map (where_faults (leaf_class l.catalog l.graph)) (flat_map row_conditions (map (sequence_given conditions) (drop l.operand-index l.operands)))) ≡
    first_of l.fn.first (flat_map (where_faults (leaf_class l.catalog l.graph)) (flat_map row_conditions (map (sequence_given conditions) l.operands)))
