use Rattle.std.proofs.Common.{rules, ◌≡◌, ◌∙◌, ◌<◌, ◌∷◌, length, map, drop, sym, ap}
use Rattle.expr_tree.specs.declared.tree.Expr.TheVariants as v
use Rattle.condition_grammar.specs.Spans.{first_span}
use Rattle.first_faults.specs.Faults.{first_of}
use Rattle.first_faults.proofs.Steps.{first_of_append}
use Rattle.sql_reader.specs.Levels.{reach_of}
use Rattle.sql_reader.specs.Types.{leaf_class, typed, total, mismatch, differing}
use Rattle.sql_reader.proofs.TypeSteps.{class_typed, compare_done, all_done, any_done, not_done, is_done, list_done, between_done, coalesce_done, rest_from, differing_begun}
use Rattle.sql_reader.proofs.TypeSteps.{loop_rest, loop_found}
use Rattle.sql_reader.proofs.types.+types.Goals as goal

pub operand-returns-clause-found : goal.operand-returns-clause-found
operand-returns-clause-found t c =
    let leaf = leaf_class (reach_of c.args.scope.now) in
    let of = typed leaf c.args.tree.now in
    c.mismatch-found.ensures
    ∙ ap (λ k. first_of c.typed-judged.result.found (mismatch c.args.demand k c.first_span.result)) (c.typed-judged.ensures.class ∙ sym (class_typed leaf c.args.tree.now))
    ∙ ap (λ s. first_of c.typed-judged.result.found (mismatch c.args.demand of.class s)) c.first_span.ensures
    ∙ ap (λ f. first_of f (mismatch c.args.demand of.class (first_span c.args.spans.now))) c.typed-judged.ensures.found
    ∙ sym (first_of_append c.args.found (of.faults c.args.spans.now) (mismatch c.args.demand of.class (first_span c.args.spans.now)))

pub operands-loop-tree-preserved : goal.operands-loop-tree-preserved
operands-loop-tree-preserved t c =
    let leaf = leaf_class (reach_of c.args.scope.now) in
    let within : c.loop-tree.tree-index < length c.args.list.now = search rules in (
      loop_rest leaf c.args.list.now c.loop-tree.tree-index c.tree-item.result c.loop-tree.rest.now c.operand-judged.result.rest.now within c.tree-item.is
          c.operand-judged.ensures.rest ∙ c.loop-tree.invariant.0,
      loop_found leaf c.args.demand c.args.list.now c.loop-tree.tree-index c.tree-item.result c.loop-tree.rest.now c.operand-judged.result.rest.now c.loop-tree.found
          c.operand-judged.result.found within c.tree-item.is
          c.operand-judged.ensures.found c.operand-judged.ensures.rest ∙ c.loop-tree.invariant.1,
    )

pub typed-returns-in-Compare-clause-found : goal.typed-returns-in-Compare-clause-found
typed-returns-in-Compare-clause-found t c =
    c.truth_of.ensures.found ∙ (compare_done (leaf_class (reach_of c.args.scope.now)) c.args.tree.now c.in-Compare.field-0 c.get.result.now c.get-in-Compare.result.now
    c.args.spans.now c.without_first-rest.result.now
    c.operand-first.result.rest.now c.operand.result.rest.now c.args.found c.operand-first.result.found c.operand.result.found c.operand-first.result.class
    c.class_asked-asked.result
    (c.in-Compare.is ∙ ap (λ x. v.Compare c.in-Compare.field-0 x c.in-Compare.b) (sym c.get.ensures) ∙ ap (λ x. v.Compare c.in-Compare.field-0 c.get.result.now x)
    (sym c.get-in-Compare.ensures))
    c.without_first-rest.ensures
    (record { found_is = c.operand-first.ensures.found; rest_is = c.operand-first.ensures.rest; class_is = c.operand-first.ensures.class; asked_is = c.class_asked-asked.ensures })
    c.operand.ensures.found c.operand.ensures.rest).found_is

pub typed-returns-in-All-clause-rest : goal.typed-returns-in-All-clause-rest
typed-returns-in-All-clause-rest t c =
    (all_done (leaf_class (reach_of c.args.scope.now)) c.args.tree.now c.as_slice.result.now c.args.spans.now c.without_first-rest.result.now c.operands.result.rest.now
    c.args.found c.operands.result.found c.truth_asked.result
    (c.in-All.is ∙ ap v.All (sym c.as_slice.ensures)) c.without_first-rest.ensures c.truth_asked.ensures c.operands.ensures.found c.operands.ensures.rest).rest_is

pub typed-returns-in-Any-clause-rest : goal.typed-returns-in-Any-clause-rest
typed-returns-in-Any-clause-rest t c =
    (any_done (leaf_class (reach_of c.args.scope.now)) c.args.tree.now c.as_slice-in-Any.result.now c.args.spans.now c.without_first-rest.result.now
    c.operands-in-Any.result.rest.now c.args.found c.operands-in-Any.result.found c.truth_asked-in-Any.result
    (c.in-Any.is ∙ ap v.Any (sym c.as_slice-in-Any.ensures)) c.without_first-rest.ensures c.truth_asked-in-Any.ensures c.operands-in-Any.ensures.found
    c.operands-in-Any.ensures.rest).rest_is

pub typed-returns-in-Not-clause-rest : goal.typed-returns-in-Not-clause-rest
typed-returns-in-Not-clause-rest t c =
    c.truth_of-in-Not.ensures.rest ∙ (not_done (leaf_class (reach_of c.args.scope.now)) c.args.tree.now c.get-in-Not.result.now c.args.spans.now c.without_first-rest.result.now
    c.operand-in-Not.result.rest.now c.args.found c.operand-in-Not.result.found
    c.truth_asked-in-Not.result (c.in-Not.is ∙ ap v.Not (sym c.get-in-Not.ensures)) c.without_first-rest.ensures c.truth_asked-in-Not.ensures c.operand-in-Not.ensures.found
    c.operand-in-Not.ensures.rest).rest_is

pub typed-returns-in-Is-clause-rest : goal.typed-returns-in-Is-clause-rest
typed-returns-in-Is-clause-rest t c =
    c.truth_of-in-Is.ensures.rest ∙ (is_done (leaf_class (reach_of c.args.scope.now)) c.args.tree.now c.get-in-Is.result.now c.in-Is.test c.in-Is.field-2 c.args.spans.now
    c.without_first-rest.result.now c.operand-in-Is.result.rest.now c.args.found
    c.operand-in-Is.result.found c.test_asked.result (c.in-Is.is ∙ ap (λ x. v.Is x c.in-Is.test c.in-Is.field-2) (sym c.get-in-Is.ensures)) c.without_first-rest.ensures
    c.test_asked.ensures c.operand-in-Is.ensures.found c.operand-in-Is.ensures.rest).rest_is

pub typed-returns-in-InList-clause-rest : goal.typed-returns-in-InList-clause-rest
typed-returns-in-InList-clause-rest t c =
    (list_done (leaf_class (reach_of c.args.scope.now)) c.args.tree.now c.get-in-InList.result.now c.as_slice-in-InList.result.now c.in-InList.field-2 c.args.spans.now
    c.without_first-rest.result.now
    c.operand-first-in-InList.result.rest.now c.operands-in-InList.result.rest.now c.args.found c.operand-first-in-InList.result.found c.operands-in-InList.result.found
    c.operand-first-in-InList.result.class c.class_asked-asked-in-InList.result
    (c.in-InList.is ∙ ap (λ x. v.InList x c.in-InList.list c.in-InList.field-2) (sym c.get-in-InList.ensures)
    ∙ ap (λ x. v.InList c.get-in-InList.result.now x c.in-InList.field-2) (sym c.as_slice-in-InList.ensures))
    c.without_first-rest.ensures
    (record {
      found_is = c.operand-first-in-InList.ensures.found;
      rest_is = c.operand-first-in-InList.ensures.rest;
      class_is = c.operand-first-in-InList.ensures.class;
      asked_is
          = c.class_asked-asked-in-InList.ensures;
    })
    c.operands-in-InList.ensures.found c.operands-in-InList.ensures.rest).rest_is

pub typed-returns-in-InList-clause-found : goal.typed-returns-in-InList-clause-found
typed-returns-in-InList-clause-found t c =
    (list_done (leaf_class (reach_of c.args.scope.now)) c.args.tree.now c.get-in-InList.result.now c.as_slice-in-InList.result.now c.in-InList.field-2 c.args.spans.now
    c.without_first-rest.result.now
    c.operand-first-in-InList.result.rest.now c.operands-in-InList.result.rest.now c.args.found c.operand-first-in-InList.result.found c.operands-in-InList.result.found
    c.operand-first-in-InList.result.class c.class_asked-asked-in-InList.result
    (c.in-InList.is ∙ ap (λ x. v.InList x c.in-InList.list c.in-InList.field-2) (sym c.get-in-InList.ensures)
    ∙ ap (λ x. v.InList c.get-in-InList.result.now x c.in-InList.field-2) (sym c.as_slice-in-InList.ensures))
    c.without_first-rest.ensures
    (record {
      found_is = c.operand-first-in-InList.ensures.found;
      rest_is = c.operand-first-in-InList.ensures.rest;
      class_is = c.operand-first-in-InList.ensures.class;
      asked_is
          = c.class_asked-asked-in-InList.ensures;
    })
    c.operands-in-InList.ensures.found c.operands-in-InList.ensures.rest).found_is

pub typed-returns-in-Between-clause-rest : goal.typed-returns-in-Between-clause-rest
typed-returns-in-Between-clause-rest t c =
    c.truth_of-in-Between.ensures.rest ∙ (between_done (leaf_class (reach_of c.args.scope.now)) c.args.tree.now c.get-in-Between.result.now c.get-in-Between-2.result.now
    c.get-in-Between-3.result.now c.in-Between.field-3 c.args.spans.now
    c.without_first-rest.result.now c.operand-first-in-Between.result.rest.now c.operand-second.result.rest.now c.operand-in-Between.result.rest.now c.args.found
    c.operand-first-in-Between.result.found c.operand-second.result.found
    c.operand-in-Between.result.found c.operand-first-in-Between.result.class c.class_asked-asked-in-Between.result
    (c.in-Between.is ∙ ap (λ x. v.Between x c.in-Between.b c.in-Between.c c.in-Between.field-3) (sym c.get-in-Between.ensures)
    ∙ ap (λ x. v.Between c.get-in-Between.result.now x c.in-Between.c c.in-Between.field-3) (sym c.get-in-Between-2.ensures)
    ∙ ap (λ x. v.Between c.get-in-Between.result.now c.get-in-Between-2.result.now x c.in-Between.field-3) (sym c.get-in-Between-3.ensures))
    c.without_first-rest.ensures
    (record {
      found_is = c.operand-first-in-Between.ensures.found;
      rest_is = c.operand-first-in-Between.ensures.rest;
      class_is = c.operand-first-in-Between.ensures.class;
      asked_is = c.class_asked-asked-in-Between.ensures;
    })
    c.operand-second.ensures.found c.operand-second.ensures.rest c.operand-in-Between.ensures.found c.operand-in-Between.ensures.rest).rest_is

pub typed-returns-in-Between-clause-found : goal.typed-returns-in-Between-clause-found
typed-returns-in-Between-clause-found t c =
    c.truth_of-in-Between.ensures.found ∙ (between_done (leaf_class (reach_of c.args.scope.now)) c.args.tree.now c.get-in-Between.result.now c.get-in-Between-2.result.now
    c.get-in-Between-3.result.now c.in-Between.field-3 c.args.spans.now
    c.without_first-rest.result.now c.operand-first-in-Between.result.rest.now c.operand-second.result.rest.now c.operand-in-Between.result.rest.now c.args.found
    c.operand-first-in-Between.result.found c.operand-second.result.found
    c.operand-in-Between.result.found c.operand-first-in-Between.result.class c.class_asked-asked-in-Between.result
    (c.in-Between.is ∙ ap (λ x. v.Between x c.in-Between.b c.in-Between.c c.in-Between.field-3) (sym c.get-in-Between.ensures)
    ∙ ap (λ x. v.Between c.get-in-Between.result.now x c.in-Between.c c.in-Between.field-3) (sym c.get-in-Between-2.ensures)
    ∙ ap (λ x. v.Between c.get-in-Between.result.now c.get-in-Between-2.result.now x c.in-Between.field-3) (sym c.get-in-Between-3.ensures))
    c.without_first-rest.ensures
    (record {
      found_is = c.operand-first-in-Between.ensures.found;
      rest_is = c.operand-first-in-Between.ensures.rest;
      class_is = c.operand-first-in-Between.ensures.class;
      asked_is = c.class_asked-asked-in-Between.ensures;
    })
    c.operand-second.ensures.found c.operand-second.ensures.rest c.operand-in-Between.ensures.found c.operand-in-Between.ensures.rest).found_is

pub typed-returns-in-Coalesce-clause-rest : goal.typed-returns-in-Coalesce-clause-rest
typed-returns-in-Coalesce-clause-rest t c =
    (coalesce_done (leaf_class (reach_of c.args.scope.now)) c.args.tree.now c.as_slice-in-Coalesce.result.now c.args.spans.now c.without_first-rest.result.now
    c.members.result.rest.now c.args.found c.members.result.found
    (c.in-Coalesce.is ∙ ap v.Coalesce (sym c.as_slice-in-Coalesce.ensures)) c.without_first-rest.ensures c.members.ensures.found c.members.ensures.rest).rest_is

pub typed-returns-in-Coalesce-clause-found : goal.typed-returns-in-Coalesce-clause-found
typed-returns-in-Coalesce-clause-found t c =
    (coalesce_done (leaf_class (reach_of c.args.scope.now)) c.args.tree.now c.as_slice-in-Coalesce.result.now c.args.spans.now c.without_first-rest.result.now
    c.members.result.rest.now c.args.found c.members.result.found
    (c.in-Coalesce.is ∙ ap v.Coalesce (sym c.as_slice-in-Coalesce.ensures)) c.without_first-rest.ensures c.members.ensures.found c.members.ensures.rest).found_is

pub members-loop-tree-init : goal.members-loop-tree-init
members-loop-tree-init t c =
    let leaf = leaf_class (reach_of c.args.scope.now) in
    let whole : c.args.list.now ≡ c.in-Some.first.now ∷ c.in-Some.others.now = search rules in (
      sym (rest_from (typed leaf c.in-Some.first.now) (map (typed leaf) c.in-Some.others.now) c.args.spans.now c.operand-first.result.rest.now c.operand-first.ensures.rest)
          ∙ ap (λ l. drop (total (map (typed leaf) l)) c.args.spans.now) (sym whole),
      sym (differing_begun leaf c.in-Some.first.now (map (typed leaf) c.in-Some.others.now) c.args.spans.now c.operand-first.result.rest.now c.args.found
          c.operand-first.result.found c.operand-first.result.class c.class_asked-asked.result
          (record {
            found_is = c.operand-first.ensures.found;
            rest_is = c.operand-first.ensures.rest;
            class_is = c.operand-first.ensures.class;
            asked_is
                = c.class_asked-asked.ensures;
          }))
          ∙ ap (λ l. first_of c.args.found (differing (map (typed leaf) l) c.args.spans.now)) (sym whole),
    )

pub members-loop-tree-preserved : goal.members-loop-tree-preserved
members-loop-tree-preserved t c =
    let leaf = leaf_class (reach_of c.args.scope.now) in
    let others = c.in-Some.others.now in
    let within : c.loop-tree.tree-index < length c.in-Some.others.now = search rules in (
      loop_rest leaf others c.loop-tree.tree-index c.tree-item.result c.loop-tree.rest.now c.operand-judged.result.rest.now within c.tree-item.is c.operand-judged.ensures.rest
          ∙ c.loop-tree.invariant.0,
      loop_found leaf c.class_asked-asked.result others c.loop-tree.tree-index c.tree-item.result c.loop-tree.rest.now c.operand-judged.result.rest.now c.loop-tree.found
          c.operand-judged.result.found within c.tree-item.is
          c.operand-judged.ensures.found c.operand-judged.ensures.rest ∙ c.loop-tree.invariant.1,
    )
