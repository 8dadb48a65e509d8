use Rattle.std.proofs.Common.{ap, ◌∙◌, ◌+◌, arith}
use Rattle.expr_tree.specs.Nodes.{count_of_nodes}
use Rattle.graph_ast.specs.declared.checked.Output.{Output}
use Rattle.normal_form.specs.Spending.{counted}
use Rattle.normal_form.proofs.SizeLemmas.{counted_more}
use Rattle.normal_form.proofs.weight.column_nodes.Goals as goal

pub loop-output-preserved : goal.loop-output-preserved
loop-output-preserved c =
    c.sum-count.ensures
    ∙ ap (λ n. counted (c.loop-output.count + n)) c.nodes.ensures
    ∙ counted_more (λ (output : Output). count_of_nodes output.value) c.args.columns.now c.loop-output.output-index c.output-item.result c.loop-output.count (omega arith)
    c.output-item.is c.loop-output.invariant
