use Rattle.std.proofs.Common.{ap, ◌∙◌}
use Rattle.expr_tree.specs.Nodes.{count_of_nodes}
use Rattle.expr_tree.proofs.FormLemmas.{numbers}
use Rattle.normal_form.proofs.SizeLemmas.{one_node}
use Rattle.normal_form.proofs.sizes.+nodes.Goals as goal

pub nodes-returns-in-Lit : goal.nodes-returns-in-Lit
nodes-returns-in-Lit t c = one_node (count_of_nodes c.args.expr.now) (ap count_of_nodes c.in-Lit.is ∙ numbers.literal _)

pub nodes-returns-in-Null : goal.nodes-returns-in-Null
nodes-returns-in-Null t c = one_node (count_of_nodes c.args.expr.now) (ap count_of_nodes c.in-Null.is ∙ numbers.null _)

pub nodes-returns-in-Leaf : goal.nodes-returns-in-Leaf
nodes-returns-in-Leaf t c = one_node (count_of_nodes c.args.expr.now) (ap count_of_nodes c.in-Leaf.is ∙ numbers.leaf _)
