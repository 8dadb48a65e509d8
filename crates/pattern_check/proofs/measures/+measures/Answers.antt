use Rattle.std.proofs.Common.{rules, ◌∙◌, ◌+◌, ◌<◌, ap, map, drop, length, option_copied}
use Rattle.graph_ast.specs.Patterns.{Body, given_by, sequence_given, part_given}
use Rattle.pattern_check.specs.SizeRules.{chained, either, sequence_measure, union_measure, body_measure, repeated_measure, measuring, counted_measure}
use Rattle.pattern_check.specs.declared.measures.Measure.{Measure}
use Rattle.pattern_check.proofs.Opened.{body_inside}
use Rattle.pattern_check.proofs.Counting.{is_counted, one_is_counted, none_is_counted, none_chained, none_either, factors_on, operands_on, repeated_counted}
use Rattle.pattern_check.proofs.measures.+measures.Goals as goal

pub factors_measure-loop-factor-init : goal.factors_measure-loop-factor-init
factors_measure-loop-factor-init t c = (one_is_counted, none_chained (sequence_measure (map (given_by measuring) c.args.factors.now)))

pub factors_measure-loop-factor-preserved : goal.factors_measure-loop-factor-preserved
factors_measure-loop-factor-preserved t c =
    let xs = c.args.factors.now in
    let within : c.loop-factor.factor-index < length c.args.factors.now = search rules in (
      is_counted c.chained-total.result (chained c.loop-factor.total c.factor_measure-own.result) c.chained-total.ensures,
      ap (λ m. counted_measure (chained m (sequence_measure (map (given_by measuring) (drop (c.loop-factor.factor-index + 1) xs)))))
          (c.chained-total.ensures ∙ ap (λ own. counted_measure (chained c.loop-factor.total own)) c.factor_measure-own.ensures)
          ∙ factors_on c.loop-factor.total xs c.loop-factor.factor-index c.factor-item.result within c.factor-item.is ∙ c.loop-factor.invariant.1,
    )

pub operands_measure-loop-operand-init : goal.operands_measure-loop-operand-init
operands_measure-loop-operand-init t c = (none_is_counted, none_either (union_measure (map sequence_measure (map (sequence_given measuring) c.args.operands.now))))

pub operands_measure-loop-operand-preserved : goal.operands_measure-loop-operand-preserved
operands_measure-loop-operand-preserved t c =
    let xs = c.args.operands.now in
    let within : c.loop-operand.operand-index < length c.args.operands.now = search rules in (
      is_counted c.either-total.result (either c.loop-operand.total c.sequence_total-own.result) c.either-total.ensures,
      ap (λ m. counted_measure (either m (union_measure (map sequence_measure (map (sequence_given measuring) (drop (c.loop-operand.operand-index + 1) xs))))))
          (c.either-total.ensures ∙ ap (λ own. counted_measure (either c.loop-operand.total own)) c.sequence_total-own.ensures)
          ∙ operands_on c.loop-operand.total xs c.loop-operand.operand-index c.operand-item.result within c.operand-item.is ∙ c.loop-operand.invariant.1,
    )

pub part_measure-returns : goal.part_measure-returns
part_measure-returns t c =
    c.repeated.ensures
    ∙ ap (λ m. counted_measure (repeated_measure (option_copied c.args.quantifier) m))
    (c.union_measure-inside.ensures ∙ ap (λ (body : Body Measure). counted_measure (body_measure body)) (body_inside measuring c.args.part.now))
    ∙ repeated_counted (option_copied c.args.quantifier) (body_measure (part_given measuring c.args.part.now).body)
