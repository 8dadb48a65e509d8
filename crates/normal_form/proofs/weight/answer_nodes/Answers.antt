use Rattle.std.proofs.Common.{ap, ap₂, ◌∙◌, ◌+◌}
use Rattle.std.specs.List.{sum_by}
use Rattle.expr_tree.specs.Nodes.{count_of_nodes}
use Rattle.graph_ast.specs.declared.checked.Output.{Output}
use Rattle.normal_form.specs.Spending.{counted}
use Rattle.normal_form.proofs.SizeLemmas.{sum_counted}
use Rattle.normal_form.proofs.weight.answer_nodes.Goals as goal

pub returns : goal.returns
returns c =
    let own = c.column_nodes-columns.ensures ∙ ap (λ columns. counted (sum_by (λ (output : Output). count_of_nodes output.value) columns)) c.as_slice.ensures in
    c.sum.ensures ∙ ap₂ (λ a b. counted (a + b)) own c.condition_nodes.ensures ∙ sum_counted _ _
