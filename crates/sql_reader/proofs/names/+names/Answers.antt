use Rattle.std.proofs.Common.{◌∙◌, sym, ap}
use Rattle.expr_tree.specs.declared.tree.Expr.TheVariants as v
use Rattle.sql_reader.specs.Levels.{reach_of}
use Rattle.sql_reader.specs.Names.{leaf_names}
use Rattle.sql_reader.proofs.FaultSteps.{compare_leaves, list_leaves, between_leaves}
use Rattle.sql_reader.proofs.names.+names.Goals as goal

pub value_names-returns-in-Compare : goal.value_names-returns-in-Compare
value_names-returns-in-Compare t c =
    compare_leaves (leaf_names (reach_of c.args.scope.now)) c.args.found c.args.value.now c.in-Compare.field-0 c.get.result.now c.get-in-Compare.result.now
    c.value_names-found.result c.value_names.result
    (c.in-Compare.is ∙ ap (λ x. v.Compare c.in-Compare.field-0 x c.in-Compare.b) (sym c.get.ensures) ∙ ap (λ x. v.Compare c.in-Compare.field-0 c.get.result.now x)
    (sym c.get-in-Compare.ensures))
    c.value_names-found.ensures c.value_names.ensures

pub value_names-returns-in-InList : goal.value_names-returns-in-InList
value_names-returns-in-InList t c =
    list_leaves (leaf_names (reach_of c.args.scope.now)) c.args.found c.args.value.now c.get-in-InList.result.now c.as_slice-in-InList.result.now c.in-InList.field-2
    c.value_names-found-in-InList.result c.list_names-in-InList.result
    (c.in-InList.is ∙ ap (λ x. v.InList x c.in-InList.list c.in-InList.field-2) (sym c.get-in-InList.ensures)
    ∙ ap (λ x. v.InList c.get-in-InList.result.now x c.in-InList.field-2) (sym c.as_slice-in-InList.ensures))
    c.value_names-found-in-InList.ensures c.list_names-in-InList.ensures

pub value_names-returns-in-Between : goal.value_names-returns-in-Between
value_names-returns-in-Between t c =
    between_leaves (leaf_names (reach_of c.args.scope.now)) c.args.found c.args.value.now c.get-in-Between.result.now c.get-in-Between-2.result.now
    c.get-in-Between-3.result.now c.in-Between.field-3
    c.value_names-found-in-Between.result c.value_names-found-in-Between-2.result c.value_names-in-Between.result
    (c.in-Between.is ∙ ap (λ x. v.Between x c.in-Between.b c.in-Between.c c.in-Between.field-3) (sym c.get-in-Between.ensures)
    ∙ ap (λ x. v.Between c.get-in-Between.result.now x c.in-Between.c c.in-Between.field-3) (sym c.get-in-Between-2.ensures)
    ∙ ap (λ x. v.Between c.get-in-Between.result.now c.get-in-Between-2.result.now x c.in-Between.field-3) (sym c.get-in-Between-3.ensures))
    c.value_names-found-in-Between.ensures c.value_names-found-in-Between-2.ensures c.value_names-in-Between.ensures
