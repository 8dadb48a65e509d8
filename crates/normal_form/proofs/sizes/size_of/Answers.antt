use Rattle.std.proofs.Common.{ap, ap₂, ◌∙◌, ◌+◌}
use Rattle.std.specs.List.{sum_by}
use Rattle.expr_tree.specs.Nodes.{count_of_nodes}
use Rattle.graph_meaning.specs.Choices.{edges_in, iterations}
use Rattle.normal_form.specs.Search.{repeated}
use Rattle.normal_form.specs.Spending.{counted}
use Rattle.normal_form.specs.Sizes.{nodes_in}
use Rattle.normal_form.proofs.PairLemmas.{size_is}
use Rattle.normal_form.proofs.sizes.size_of.Goals as goal

pub returns : goal.returns
returns c =
    let counts = c.args.counts.now in
    let edges = c.edges_of-edges.ensures ∙ ap (λ steps. counted (edges_in (repeated steps counts))) c.as_slice.ensures in
    let inside = c.nodes_inside-inside.ensures ∙ ap (λ steps. counted (nodes_in (iterations steps counts))) c.as_slice-2.ensures in
    let outside = c.nodes_of-outside.ensures ∙ ap (λ conditions. counted (sum_by count_of_nodes conditions)) c.as_slice-3.ensures in
    let places = c.sum-places.ensures ∙ ap (λ n. counted (n + 1)) c.product.ensures in
    let compared = c.lowered-compared.ensures ∙ ap counted c.pairs.ensures in
    c.sum-2.ensures
    ∙ ap₂ (λ a b. counted (a + b)) (c.sum.ensures ∙ ap₂ (λ a b. counted (a + b)) places c.sum-nodes.ensures) compared
    ∙ size_is c.args.mode c.args.operand.now counts c.edges_of-edges.result c.nodes_inside-inside.result c.nodes_of-outside.result edges inside outside
