use Rattle.std.proofs.Common.{rules, ◌∙◌, ◌+◌, ◌<◌, ◌++◌, ◌∷◌, [], List, ap, map, drop, length}
use Rattle.graph_ast.specs.declared.query.Sequence.{Sequence}
use Rattle.graph_ast.specs.Patterns.{sequence_given}
use Rattle.pattern_check.specs.SizeRules.{large, joined}
use Rattle.pattern_check.specs.Checked.{Spliced, splice, splicing}
use Rattle.pattern_check.specs.Splicing.{behind}
use Rattle.pattern_check.proofs.Faultless.{none_given}
use Rattle.pattern_check.proofs.SplicingSteps.{operands_on}
use Rattle.pattern_check.proofs.splicing.operands_of.Goals as goal

pub add_sequence-requires : goal.add_sequence-requires
add_sequence-requires c =
    let within : c.loop-operand.operand-index < length c.args.operands.now = search rules in
    none_given joined (sequence_given large) c.args.operands.now c.loop-operand.operand-index c.operand-item.result within c.operand-item.is c.requires

pub loop-operand-preserved : goal.loop-operand-preserved
loop-operand-preserved c =
    let given : Sequence → List Spliced = sequence_given (splicing c.args.catalog.now c.args.graph.now) in
    let within : c.loop-operand.operand-index < length c.args.operands.now = search rules in
    ap (λ l. l ++ map splice (map given (drop (c.loop-operand.operand-index + 1) c.args.operands.now)))
    (c.in_ok-push.ensures.ok
    ∙ ap (λ (o : Spliced). c.loop-operand.made ++ o ∷ []) (c.in_ok-add_sequence.ensures ∙ ap (λ (n : Spliced). behind n (splice
    (given c.operand-item.result))) c.nothing.ensures))
    ∙ operands_on given c.loop-operand.made c.args.operands.now c.loop-operand.operand-index c.operand-item.result within c.operand-item.is ∙ c.loop-operand.invariant
