use Rattle.std.proofs.Common.{rules, ◌≡◌, ◌∙◌, ◌+◌, ◌<◌, List, IfOk, ap, subst, map, drop, length}
use Rattle.std.specs.List.{flat_map}
use Rattle.graph_ast.specs.declared.query.Sequence.{Sequence}
use Rattle.graph_ast.specs.declared.query.Factor.{Factor}
use Rattle.graph_ast.specs.declared.query.Factor.TheFolds.{the_lemmas}
use Rattle.first_faults.specs.declared.faults.Fault.{Fault}
use Rattle.graph_ast.specs.Patterns.{given_by, sequence_given}
use Rattle.pattern_check.specs.SizeRules.{large, joined}
use Rattle.pattern_check.specs.Checked.{Spliced, splice, splicing}
use Rattle.pattern_check.specs.Splicing.{behind}
use Rattle.pattern_check.proofs.Faultless.{none_given}
use Rattle.pattern_check.proofs.Opened.{sequences_inside}
use Rattle.pattern_check.proofs.SplicingSteps.{factor_on, operand_on}
use Rattle.pattern_check.proofs.splicing.+splicing.Goals as goal

pub add_factors-add_factor-requires : goal.add_factors-add_factor-requires
add_factors-add_factor-requires t c =
    let within : c.loop-factor.factor-index < length c.args.factors.now = search rules in (
      search (rules, the_lemmas),
      none_given (λ (faults : List Fault). faults) (given_by large) c.args.factors.now c.loop-factor.factor-index c.factor-item.result within c.factor-item.is c.requires,
    )

pub add_factors-loop-factor-preserved : goal.add_factors-loop-factor-preserved
add_factors-loop-factor-preserved t c =
    let given : Factor → Spliced = given_by (splicing c.args.catalog.now c.args.graph.now) in
    let within : c.loop-factor.factor-index < length c.args.factors.now = search rules in
    ap (λ (d : Spliced). behind d (splice (map given (drop (c.loop-factor.factor-index + 1) c.args.factors.now)))) c.in_ok-done.ensures
    ∙ factor_on given c.loop-factor.done c.args.factors.now c.loop-factor.factor-index c.factor-item.result within c.factor-item.is ∙ c.loop-factor.invariant

pub add_operands-add_sequence-requires : goal.add_operands-add_sequence-requires
add_operands-add_sequence-requires t c =
    let within : c.loop-operand.operand-index < length c.args.operands.now = search rules in (
      search (rules, the_lemmas),
      none_given joined (sequence_given large) c.args.operands.now c.loop-operand.operand-index c.operand-item.result within c.operand-item.is c.requires,
    )

pub add_operands-loop-operand-preserved : goal.add_operands-loop-operand-preserved
add_operands-loop-operand-preserved t c =
    let given : Sequence → List Spliced = sequence_given (splicing c.args.catalog.now c.args.graph.now) in
    let within : c.loop-operand.operand-index < length c.args.operands.now = search rules in
    ap (λ (d : Spliced). behind d (splice (flat_map (λ own. own) (map given (drop (c.loop-operand.operand-index + 1) c.args.operands.now))))) c.in_ok-done.ensures
    ∙ operand_on given c.loop-operand.done c.args.operands.now c.loop-operand.operand-index c.operand-item.result within c.operand-item.is ∙ c.loop-operand.invariant

pub add_union-returns : goal.add_union-returns
add_union-returns t c =
    let given : Sequence → List Spliced = sequence_given (splicing c.args.catalog.now c.args.graph.now) in
    subst (λ rows. IfOk c.add_operands.result (λ made. made ≡ behind c.args.done (splice (flat_map (λ own. own) rows)))) (sequences_inside
    (splicing c.args.catalog.now c.args.graph.now) c.args.union.now)
    (subst (λ sequences. IfOk c.add_operands.result (λ made. made ≡ behind c.args.done (splice (flat_map (λ own. own)
    (map given sequences))))) c.as_slice.ensures c.add_operands.ensures)
