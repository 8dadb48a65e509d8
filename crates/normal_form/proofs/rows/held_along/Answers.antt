use Rattle.std.proofs.Common.{sym, ◌∙◌}
use Rattle.normal_form.proofs.RowLemmas.{held_here, held_later}
use Rattle.normal_form.proofs.rows.held_along.Goals as goal

pub returns-in-Some : goal.returns-in-Some
returns-in-Some c =
    sym (held_here c.args.name.now c.args.row.now c.loop-part.part-index c.part-item.result c.loop-part-test.true c.part-item.is c.in-Some.element
    (sym c.held.ensures ∙ c.in-Some.is))
    ∙ c.loop-part.invariant

pub loop-part-preserved : goal.loop-part-preserved
loop-part-preserved c =
    sym (held_later c.args.name.now c.args.row.now c.loop-part.part-index c.part-item.result c.loop-part-test.true c.part-item.is (sym c.held.ensures ∙ c.in_default.is))
    ∙ c.loop-part.invariant
