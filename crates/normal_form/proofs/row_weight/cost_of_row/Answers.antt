use Rattle.std.proofs.Common.{◌∙◌, arith}
use Rattle.normal_form.specs.declared.rows.Costed.{Costed}
use Rattle.normal_form.proofs.WeightLemmas.{cost_on}
use Rattle.normal_form.proofs.row_weight.cost_of_row.Goals as goal

pub loop-part-preserved : goal.loop-part-preserved
loop-part-preserved c =
    c.sum-cost.ensures
    ∙ cost_on (λ (part : Costed). part.cost) c.args.row.now c.loop-part.part-index c.part-item.result c.args.answer c.loop-part.cost (omega arith) c.part-item.is
    c.loop-part.invariant
