use Rattle.std.proofs.Common.{ap, ◌∙◌, ◌+◌}
use Rattle.normal_form.specs.Spending.{counted}
use Rattle.normal_form.proofs.SizeLemmas.{part_edges}
use Rattle.normal_form.proofs.sizes.with_part_edges.Goals as goal

pub returns : goal.returns
returns c = λ rest b.
    c.sum.ensures ∙ ap (λ n. counted (n + c.args.below)) c.product.ensures
    ∙ part_edges c.args.count c.args.pieces.now rest c.edges_among-own.result c.args.below c.edges_among-own.ensures b
