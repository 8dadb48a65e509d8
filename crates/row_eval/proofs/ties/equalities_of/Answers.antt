use Rattle.std.proofs.Common.{◌&&◌, ◌∙◌, ap, sym, take, arith}
use Rattle.row_eval.specs.Ties.{ties_hold, tie_holds}
use Rattle.row_eval.specs.declared.frame.Condition.{Condition}
use Rattle.row_eval.proofs.TieLemmas.{ties_more}
use Rattle.row_eval.proofs.ties.equalities_of.Goals as goal

pub loop-test-preserved : goal.loop-test-preserved
loop-test-preserved c = λ s row long.
    c.in_ok-tie.ensures s row long
    ∙ ap (λ b. b && tie_holds c.args.place s row c.test-item.result.expr) (c.loop-test.invariant s row long)
    ∙ ap (λ (t : Condition). ties_hold c.args.place s row (take c.loop-test.test-index c.args.tests.now) && tie_holds c.args.place s row t.expr) c.test-item.is
    ∙ sym (ties_more c.args.place s row c.args.tests.now c.loop-test.test-index c.test-item.result (omega arith))
