use Rattle.std.proofs.Common.{◌∙◌, ap, map}
use Rattle.pgq_base.specs.declared.value.Class.TheVariants.{Truth}
use Rattle.pattern_check.specs.TypeRules.{typed, leaf_class}
use Rattle.pattern_check.specs.Typing.{class_asked, Seen, seen, begun, joined, with_operand, with_operands, finished}
use Rattle.pattern_check.proofs.TypeSteps.{joined_is, in_compare, in_all, in_any, in_not, in_is, in_in_list, in_between, in_coalesce}
use Rattle.pattern_check.proofs.types.+types.Goals as goal

pub operand-returns : goal.operand-returns
operand-returns t c =
    c.join.ensures ∙ ap (joined (seen c.args.row)) c.judge-judged.ensures ∙ joined_is (seen c.args.row) (typed (leaf_class c.args.catalog.now c.args.graph.now) c.args.expr.now)

pub judge-returns-in-Compare : goal.judge-returns-in-Compare
judge-returns-in-Compare t c =
    let leaf = leaf_class c.args.catalog.now c.args.graph.now in
    c.finish-in-Compare.ensures
    ∙ ap (finished Truth) (c.operand.ensures
    ∙ ap (λ row. with_operand row (typed leaf c.get-in-Compare.result.now)) (c.operand-row.ensures
    ∙ ap (λ row. with_operand row (typed leaf c.get.result.now)) c.begin-in-Compare.ensures))
    ∙ in_compare leaf c.args.expr.now c.in-Compare.field-0 c.get.result.now c.get-in-Compare.result.now c.args.spans.now
    (rw (c.get.ensures, c.get-in-Compare.ensures) c.in-Compare.is)

pub judge-returns-in-All : goal.judge-returns-in-All
judge-returns-in-All t c =
    let leaf = leaf_class c.args.catalog.now c.args.graph.now in
    c.finish-in-All.ensures
    ∙ ap (finished Truth) (c.operands.ensures ∙ ap (λ row. with_operands row (map (typed leaf) c.as_slice.result.now)) c.begin-row.ensures)
    ∙ in_all leaf c.args.expr.now c.as_slice.result.now c.args.spans.now (rw c.as_slice.ensures c.in-All.is)

pub judge-returns-in-Any : goal.judge-returns-in-Any
judge-returns-in-Any t c =
    let leaf = leaf_class c.args.catalog.now c.args.graph.now in
    c.finish-in-Any.ensures
    ∙ ap (finished Truth) (c.operands-in-Any.ensures ∙ ap (λ row. with_operands row (map (typed leaf) c.as_slice-in-Any.result.now)) c.begin-row-in-Any.ensures)
    ∙ in_any leaf c.args.expr.now c.as_slice-in-Any.result.now c.args.spans.now (rw c.as_slice-in-Any.ensures c.in-Any.is)

pub judge-returns-in-Not : goal.judge-returns-in-Not
judge-returns-in-Not t c =
    let leaf = leaf_class c.args.catalog.now c.args.graph.now in
    c.finish-in-Not.ensures
    ∙ ap (finished Truth) (c.operand-in-Not.ensures ∙ ap (λ row. with_operand row (typed leaf c.get-in-Not.result.now)) c.begin-row-in-Not.ensures)
    ∙ in_not leaf c.args.expr.now c.get-in-Not.result.now c.args.spans.now (rw c.get-in-Not.ensures c.in-Not.is)

pub judge-returns-in-Is : goal.judge-returns-in-Is
judge-returns-in-Is t c =
    let leaf = leaf_class c.args.catalog.now c.args.graph.now in
    c.finish-in-Is.ensures
    ∙ ap (finished Truth) (c.operand-in-Is.ensures
    ∙ ap (λ row. with_operand row (typed leaf c.get-in-Is.result.now)) (c.begin-row-in-Is.ensures ∙ ap (λ wanted. begun wanted c.args.spans.now) c.asked_for.ensures))
    ∙ in_is leaf c.args.expr.now c.get-in-Is.result.now c.in-Is.test c.in-Is.field-2 c.args.spans.now (rw c.get-in-Is.ensures c.in-Is.is)

pub judge-returns-in-InList : goal.judge-returns-in-InList
judge-returns-in-InList t c =
    let leaf = leaf_class c.args.catalog.now c.args.graph.now in
    c.finish-in-InList.ensures
    ∙ ap (finished Truth) (c.operands-in-InList.ensures
    ∙ ap (λ row. with_operands row (map (typed leaf) c.as_slice-in-InList.result.now)) (c.operand-row-in-InList.ensures
    ∙ ap (λ row. with_operand row (typed leaf c.get-in-InList.result.now)) c.begin-in-InList.ensures))
    ∙ in_in_list leaf c.args.expr.now c.get-in-InList.result.now c.as_slice-in-InList.result.now c.in-InList.field-2 c.args.spans.now
    (rw (c.get-in-InList.ensures, c.as_slice-in-InList.ensures) c.in-InList.is)

pub judge-returns-in-Between : goal.judge-returns-in-Between
judge-returns-in-Between t c =
    let leaf = leaf_class c.args.catalog.now c.args.graph.now in
    c.finish-in-Between.ensures
    ∙ ap (finished Truth) (c.operand-in-Between.ensures
    ∙ ap (λ row. with_operand row (typed leaf c.get-in-Between-3.result.now)) (c.operand-row-in-Between-2.ensures
    ∙ ap (λ row. with_operand row (typed leaf c.get-in-Between-2.result.now)) (c.operand-row-in-Between.ensures
    ∙ ap (λ row. with_operand row (typed leaf c.get-in-Between.result.now)) c.begin-in-Between.ensures)))
    ∙ in_between leaf c.args.expr.now c.get-in-Between.result.now c.get-in-Between-2.result.now c.get-in-Between-3.result.now c.in-Between.field-3 c.args.spans.now
    (rw (c.get-in-Between.ensures, c.get-in-Between-2.ensures, c.get-in-Between-3.ensures) c.in-Between.is)

pub judge-returns-in-Coalesce : goal.judge-returns-in-Coalesce
judge-returns-in-Coalesce t c =
    let leaf = leaf_class c.args.catalog.now c.args.graph.now in
    c.finish-in-Coalesce.ensures
    ∙ ap (λ class. finished class (seen c.operands-row.result)) c.class_asked.ensures
    ∙ ap (λ (row : Seen). finished (class_asked row.wanted) row) (c.operands-row.ensures
    ∙ ap (λ row. with_operands row (map (typed leaf) c.as_slice-in-Coalesce.result.now)) c.begin-row-in-Coalesce.ensures)
    ∙ in_coalesce leaf c.args.expr.now c.as_slice-in-Coalesce.result.now c.args.spans.now (rw c.as_slice-in-Coalesce.ensures c.in-Coalesce.is)
