use Rattle.std.proofs.Common.{rules, ◌∙◌, ◌+◌, ◌<◌, List, sym, ap, map, drop, length}
use Rattle.std.specs.List.{flat_map}
use Rattle.expr_tree.specs.declared.tree.Expr.TheVariants as v
use Rattle.expr_tree.specs.Leaves.{leaves_in, joined}
use Rattle.graph_ast.specs.declared.query.PropertyRef.{PropertyRef}
use Rattle.first_faults.specs.declared.faults.Fault.{Fault}
use Rattle.first_faults.specs.Faults.{first_of}
use Rattle.pattern_check.specs.Variables.{used}
use Rattle.pattern_check.proofs.LeafSteps.{not_leaves, is_leaves, compare_leaves, list_leaves, between_leaves, joined_step}
use Rattle.pattern_check.proofs.leaves.+leaves.Goals as goal

pub in_expr-returns-in-Compare : goal.in_expr-returns-in-Compare
in_expr-returns-in-Compare g t c =
    compare_leaves (λ leaf. g.R.LeafRule.faults c.args.rule.now (used c.args.around.now leaf)) c.args.first c.args.expr.now
    c.in-Compare.field-0 c.get.result.now c.get-in-Compare.result.now
    c.in_expr-found.result c.in_expr.result
    (c.in-Compare.is ∙ ap (λ x. v.Compare c.in-Compare.field-0 x c.in-Compare.b) (sym c.get.ensures)
    ∙ ap (λ x. v.Compare c.in-Compare.field-0 c.get.result.now x) (sym c.get-in-Compare.ensures))
    c.in_expr-found.ensures c.in_expr.ensures

pub in_expr-returns-in-Not : goal.in_expr-returns-in-Not
in_expr-returns-in-Not g t c =
    not_leaves (λ leaf. g.R.LeafRule.faults c.args.rule.now (used c.args.around.now leaf)) c.args.first c.args.expr.now c.get-in-Not.result.now c.in_expr-in-Not.result
    (c.in-Not.is ∙ ap v.Not (sym c.get-in-Not.ensures)) c.in_expr-in-Not.ensures

pub in_expr-returns-in-Is : goal.in_expr-returns-in-Is
in_expr-returns-in-Is g t c =
    is_leaves (λ leaf. g.R.LeafRule.faults c.args.rule.now (used c.args.around.now leaf)) c.args.first c.args.expr.now
    c.get-in-Is.result.now c.in-Is.field-1 c.in-Is.field-2 c.in_expr-in-Is.result
    (c.in-Is.is ∙ ap (λ x. v.Is x c.in-Is.field-1 c.in-Is.field-2) (sym c.get-in-Is.ensures)) c.in_expr-in-Is.ensures

pub in_expr-returns-in-InList : goal.in_expr-returns-in-InList
in_expr-returns-in-InList g t c =
    list_leaves (λ leaf. g.R.LeafRule.faults c.args.rule.now (used c.args.around.now leaf)) c.args.first c.args.expr.now
    c.get-in-InList.result.now c.as_slice-in-InList.result.now c.in-InList.field-2
    c.in_expr-found-in-InList.result c.in_exprs-in-InList.result
    (c.in-InList.is ∙ ap (λ x. v.InList x c.in-InList.list c.in-InList.field-2) (sym c.get-in-InList.ensures)
    ∙ ap (λ x. v.InList c.get-in-InList.result.now x c.in-InList.field-2) (sym c.as_slice-in-InList.ensures))
    c.in_expr-found-in-InList.ensures c.in_exprs-in-InList.ensures

pub in_expr-returns-in-Between : goal.in_expr-returns-in-Between
in_expr-returns-in-Between g t c =
    between_leaves (λ leaf. g.R.LeafRule.faults c.args.rule.now (used c.args.around.now leaf)) c.args.first c.args.expr.now
    c.get-in-Between.result.now c.get-in-Between-2.result.now c.get-in-Between-3.result.now c.in-Between.field-3
    c.in_expr-found-in-Between.result c.in_expr-found-in-Between-2.result c.in_expr-in-Between.result
    (c.in-Between.is ∙ ap (λ x. v.Between x c.in-Between.b c.in-Between.c c.in-Between.field-3) (sym c.get-in-Between.ensures)
    ∙ ap (λ x. v.Between c.get-in-Between.result.now x c.in-Between.c c.in-Between.field-3) (sym c.get-in-Between-2.ensures)
    ∙ ap (λ x. v.Between c.get-in-Between.result.now c.get-in-Between-2.result.now x c.in-Between.field-3) (sym c.get-in-Between-3.ensures))
    c.in_expr-found-in-Between.ensures c.in_expr-found-in-Between-2.ensures c.in_expr-in-Between.ensures

pub in_exprs-loop-expr-preserved : goal.in_exprs-loop-expr-preserved
in_exprs-loop-expr-preserved g t c =
    let xs = c.args.list.now in
    let w : PropertyRef → List Fault = λ leaf. g.R.LeafRule.faults c.args.rule.now (used c.args.around.now leaf) in
    let within : c.loop-expr.expr-index < length c.args.list.now = search rules in
    ap (λ o. first_of o (flat_map w (joined (map leaves_in (drop (c.loop-expr.expr-index + 1) xs))))) c.in_expr-found.ensures
    ∙ joined_step w leaves_in c.loop-expr.found xs c.loop-expr.expr-index c.expr-item.result within c.expr-item.is ∙ c.loop-expr.invariant
