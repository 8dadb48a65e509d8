use Rattle.std.proofs.Common.{ap, ◌∙◌, ◌+◌}
use Rattle.normal_form.specs.Spending.{counted}
use Rattle.normal_form.proofs.SizeLemmas.{part_nodes}
use Rattle.normal_form.proofs.sizes.with_part_nodes.Goals as goal

pub returns : goal.returns
returns c = λ pieces rest b.
    c.sum.ensures ∙ ap (λ n. counted (n + c.args.below)) c.product.ensures
    ∙ part_nodes c.args.count pieces c.args.conditions.now rest c.nodes_of-own.result c.args.below c.nodes_of-own.ensures b
