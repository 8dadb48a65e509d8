use Rattle.std.proofs.Common.{ap, ◌∙◌, ◌+◌, arith}
use Rattle.expr_tree.specs.Nodes.{count_of_nodes}
use Rattle.normal_form.specs.Spending.{counted}
use Rattle.normal_form.proofs.SizeLemmas.{counted_more}
use Rattle.normal_form.proofs.sizes.nodes_of.Goals as goal

pub loop-condition-preserved : goal.loop-condition-preserved
loop-condition-preserved c =
    c.sum-count.ensures
    ∙ ap (λ n. counted (c.loop-condition.count + n)) c.nodes.ensures
    ∙ counted_more count_of_nodes c.args.conditions.now c.loop-condition.condition-index c.condition-item.result c.loop-condition.count (omega arith) c.condition-item.is
    c.loop-condition.invariant
