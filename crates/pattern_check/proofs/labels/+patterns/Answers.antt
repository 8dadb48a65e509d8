use Rattle.std.proofs.Common.{rules, ◌∙◌, ◌+◌, ◌<◌, List, ap, map, drop, length}
use Rattle.std.specs.List.{flat_map}
use Rattle.graph_ast.specs.declared.schema.Named.{Named}
use Rattle.first_faults.specs.Faults.{first_of}
use Rattle.graph_ast.specs.Patterns.{given_by, sequence_given}
use Rattle.pattern_check.specs.NameRules.{unknown_label, labelling, row_labels}
use Rattle.pattern_check.proofs.PatternSteps.{given_on}
use Rattle.pattern_check.proofs.labels.+patterns.Goals as goal

pub in_factors-loop-factor-preserved : goal.in_factors-loop-factor-preserved
in_factors-loop-factor-preserved t c =
    let xs = c.args.factors.now in
    let w = unknown_label c.args.graph.now in
    let within : c.loop-factor.factor-index < length c.args.factors.now = search rules in
    ap (λ o. first_of o (flat_map w (row_labels (map (given_by labelling) (drop (c.loop-factor.factor-index + 1) xs))))) c.in_factor-found.ensures
    ∙ given_on w (λ (own : List Named). own) (given_by labelling) c.loop-factor.found xs c.loop-factor.factor-index c.factor-item.result within c.factor-item.is
    ∙ c.loop-factor.invariant

pub in_operands-loop-operand-preserved : goal.in_operands-loop-operand-preserved
in_operands-loop-operand-preserved t c =
    let xs = c.args.operands.now in
    let w = unknown_label c.args.graph.now in
    let within : c.loop-operand.operand-index < length c.args.operands.now = search rules in
    ap (λ o. first_of o (flat_map w (flat_map row_labels (map (sequence_given labelling) (drop (c.loop-operand.operand-index + 1) xs))))) c.in_sequence-found.ensures
    ∙ given_on w row_labels (sequence_given labelling) c.loop-operand.found xs c.loop-operand.operand-index c.operand-item.result within c.operand-item.is
    ∙ c.loop-operand.invariant
