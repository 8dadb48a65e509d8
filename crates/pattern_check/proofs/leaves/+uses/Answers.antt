use Rattle.std.proofs.Common.{rules, ◌≡◌, ◌∙◌, option_copied, sym, ◌+◌, ◌<◌, List, ap, map, drop, length}
use Rattle.std.proofs.lemmas.Result.{IfOk-weaker}
use Rattle.graph_ast.specs.declared.query.PartTree.{out-PartTree}
use Rattle.graph_ast.specs.declared.query.Factor.TheVariants as factor_is
use Rattle.std.specs.List.{flat_map}
use Rattle.first_faults.specs.Faults.{first_of}
use Rattle.graph_ast.specs.Patterns.{given_by, sequence_given, part_given, body_given}
use Rattle.pattern_check.specs.Scopes.{Uses, Use, using}
use Rattle.pattern_check.specs.Variables.{row_uses}
use Rattle.pattern_check.proofs.Opened.{body_inside, condition_inside}
use Rattle.pattern_check.proofs.PatternSteps.{given_on}
use Rattle.pattern_check.proofs.UseSteps.{operands_inside, uses_of_part, uses_apart}
use Rattle.pattern_check.proofs.leaves.+uses.Goals as goal

pub in_factors-loop-factor-preserved : goal.in_factors-loop-factor-preserved
in_factors-loop-factor-preserved g t c =
    let xs = c.args.factors.now in
    let w = g.R.LeafRule.faults c.args.rule.now in
    let around = c.args.around.now in
    let within : c.loop-factor.factor-index < length c.args.factors.now = search rules in
    ap (λ o. first_of o (flat_map w (row_uses around (map (given_by using) (drop (c.loop-factor.factor-index + 1) xs))))) c.in_ok-found.ensures
    ∙ given_on w (λ (factor : Uses). factor.uses around) (given_by using) c.loop-factor.found xs c.loop-factor.factor-index c.factor-item.result within c.factor-item.is
    ∙ c.loop-factor.invariant

pub in_operands-loop-operand-preserved : goal.in_operands-loop-operand-preserved
in_operands-loop-operand-preserved g t c =
    let xs = c.args.operands.now in
    let w = g.R.LeafRule.faults c.args.rule.now in
    let around = c.args.around.now in
    let within : c.loop-operand.operand-index < length c.args.operands.now = search rules in
    ap (λ o. first_of o (flat_map w (flat_map (row_uses around) (map (sequence_given using) (drop (c.loop-operand.operand-index + 1) xs))))) c.in_ok-found.ensures
    ∙ given_on w (row_uses around) (sequence_given using) c.loop-operand.found xs c.loop-operand.operand-index c.operand-item.result within c.operand-item.is
    ∙ c.loop-operand.invariant

pub in_union-returns : goal.in_union-returns
in_union-returns g t c =
    IfOk-weaker c.in_operands.result _ _
    (λ found e. e ∙ ap (λ (l : List (List Uses)). first_of c.args.first (flat_map (g.R.LeafRule.faults c.args.rule.now) (flat_map (row_uses c.args.around.now) l)))
    (ap (map (sequence_given using)) c.as_slice.ensures ∙ operands_inside using c.args.union.now)) c.in_operands.ensures

pub in_part-returns : goal.in_part-returns
in_part-returns g t c =
    c.in_given.ensures
    ∙ uses_apart (g.R.LeafRule.faults c.args.rule.now) c.args.first _ c.args.around.now (part_given using c.args.part.now) (body_given using (out-PartTree c.args.part.now).body)
    (out-PartTree c.args.part.now).condition c.in_ok-found.ensures (body_inside using c.args.part.now) (condition_inside using c.args.part.now)

pub in_factor-returns-in_ok-inner-in-Part : goal.in_factor-returns-in_ok-inner-in-Part
in_factor-returns-in_ok-inner-in-Part g t c =
    let there : option_copied c.as_ref.result ≡ c.in_ok-names-in-Part.names = search rules in
    IfOk-weaker c.in_part.result _ _
    (λ found e. e ∙ ap (λ (l : List Use). first_of c.args.first (flat_map (g.R.LeafRule.faults c.args.rule.now) l))
    (uses_of_part c.args.factor.now c.get-part.result.now c.in-Part.quantifier (option_copied c.as_ref.result) c.args.around.now _
    (c.in-Part.is ∙ ap (λ p. factor_is.Part p c.in-Part.quantifier) (sym c.get-part.ensures)) (there ∙ c.in_ok-names-in-Part.ensures)
    c.in_ok-inner-in-Part.ensures)) c.in_part.ensures
