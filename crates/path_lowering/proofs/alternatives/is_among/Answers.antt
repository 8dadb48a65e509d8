use Rattle.path_lowering.proofs.AmongSteps.{found_here, not_here}
use Rattle.path_lowering.proofs.alternatives.is_among.Goals as goal

pub returns-then-same_expr : goal.returns-then-same_expr
returns-then-same_expr c =
    found_here c.args.conditions.now c.loop-other.other-index c.other-item.result c.args.condition.now c.same_expr.result c.other-item.is c.loop-other-test.true
    c.same_expr.ensures c.if-same_expr.true
    c.loop-other.invariant

pub loop-other-preserved : goal.loop-other-preserved
loop-other-preserved c =
    not_here c.args.conditions.now c.loop-other.other-index c.other-item.result c.args.condition.now c.same_expr.result c.other-item.is c.loop-other-test.true
    c.same_expr.ensures c.if-same_expr.false
    c.loop-other.invariant
