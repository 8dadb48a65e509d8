use Rattle.std.proofs.Common.{rules, ◌≡◌, ◌∙◌, ◌+◌, ◌<◌, List, ap, map, drop, length, option_copied}
use Rattle.std.specs.List.{flat_map}
use Rattle.first_faults.specs.Faults.{first_of}
use Rattle.graph_ast.specs.declared.query.Condition.{Condition}
use Rattle.graph_ast.specs.declared.query.PartTree.{out-PartTree}
use Rattle.graph_ast.specs.Patterns.{given_by, sequence_given, part_given, body_given}
use Rattle.pattern_check.specs.Scopes.{conditions, row_conditions}
use Rattle.pattern_check.specs.TypeRules.{leaf_class, where_faults}
use Rattle.pattern_check.proofs.Opened.{body_inside, condition_inside}
use Rattle.pattern_check.proofs.PatternSteps.{given_on}
use Rattle.pattern_check.proofs.WhereSteps.{part_apart}
use Rattle.pattern_check.proofs.wheres.+wheres.Goals as goal

pub in_factors-loop-factor-preserved : goal.in_factors-loop-factor-preserved
in_factors-loop-factor-preserved t c =
    let xs = c.args.factors.now in
    let w = where_faults (leaf_class c.args.catalog.now c.args.graph.now) in
    let within : c.loop-factor.factor-index < length c.args.factors.now = search rules in
    ap (λ o. first_of o (flat_map w (row_conditions (map (given_by conditions) (drop (c.loop-factor.factor-index + 1) xs))))) c.in_factor-found.ensures
    ∙ given_on w (λ (own : List Condition). own) (given_by conditions) c.loop-factor.found xs c.loop-factor.factor-index c.factor-item.result within c.factor-item.is
    ∙ c.loop-factor.invariant

pub in_operands-loop-operand-preserved : goal.in_operands-loop-operand-preserved
in_operands-loop-operand-preserved t c =
    let xs = c.args.operands.now in
    let w = where_faults (leaf_class c.args.catalog.now c.args.graph.now) in
    let within : c.loop-operand.operand-index < length c.args.operands.now = search rules in
    ap (λ o. first_of o (flat_map w (flat_map row_conditions (map (sequence_given conditions) (drop (c.loop-operand.operand-index + 1) xs))))) c.in_sequence-found.ensures
    ∙ given_on w row_conditions (sequence_given conditions) c.loop-operand.found xs c.loop-operand.operand-index c.operand-item.result within c.operand-item.is
    ∙ c.loop-operand.invariant

pub in_part-returns : goal.in_part-returns
in_part-returns t c =
    let own : option_copied c.as_ref.result ≡ (out-PartTree c.args.part.now).condition = search rules in
    c.given_where.ensures
    ∙ part_apart (where_faults (leaf_class c.args.catalog.now c.args.graph.now)) c.args.first c.in_union-found.result (part_given conditions c.args.part.now)
    (body_given conditions (out-PartTree c.args.part.now).body) (option_copied c.as_ref.result) c.in_union-found.ensures (body_inside conditions c.args.part.now)
    (own ∙ condition_inside conditions c.args.part.now)
