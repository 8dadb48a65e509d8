use Rattle.std.proofs.Common.{◌+◌, ◌∙◌, cond, ap, sym, subst}
use Rattle.std.specs.List.{list_any}
use Rattle.pgq_base.specs.Instances.{same_values}
use Rattle.distinct_rows.specs.KeyOrder.{holds, values_in}
use Rattle.distinct_rows.proofs.DifferentRows.{Counted, counted_none, counted_more}
use Rattle.distinct_rows.proofs.counting.distinct.Goals as goal
use Rattle.distinct_rows.proofs.counting.distinct.Goals.{then-branch, else-branch}

pub loop-row-init : goal.loop-row-init
loop-row-init c = counted_none c.args.rows.now (holds c.new-seen.result) (λ values. ap (list_any (λ key. same_values values (values_in key))) c.new-seen.ensures.empty)

pub loop-row-preserved : goal.loop-row-preserved
loop-row-preserved c =
    let rows = c.args.rows.now in
    let i = c.loop-row.row-index in
    let count = c.loop-row.count in
    let fresh = c.in_ok-add.field-0 in
    let step = counted_more (holds c.loop-row.seen) (holds c.add.new.seen) count rows i c.row-item.result fresh c.loop-row.invariant c.loop-row-test.true c.row-item.is
    c.in_ok-add.ensures.fresh c.in_ok-add.ensures.grown in
    elim c.if-branch.branch [
      | then-branch w ↦ subst (λ n. Counted (holds c.add.new.seen) n rows (i + 1)) (ap (λ t. cond t (count + 1) count) w.if-branch.true ∙ sym w.count-is) step
      | else-branch w ↦ subst (λ n. Counted (holds c.add.new.seen) n rows (i + 1)) (ap (λ t. cond t (count + 1) count) w.if-branch.false ∙ sym w.count-is) step
    ]
