use Rattle.std.proofs.Common.{◌≤◌, refl, arith, ◌≡◌, ◌∙◌, [], List, ap, subst}
use Rattle.std.specs.List.{list_all}
use Rattle.std.specs.Borrow.{Bor}
use Rattle.pgq_base.specs.declared.rows.Row.{Row}
use Rattle.sql_algebra.specs.declared.tree.FromItem.{FromItem}
use Rattle.sql_algebra.specs.declared.tree.SelectColumn.{SelectColumn}
use Rattle.sql_algebra.specs.Soundness.{value_is_sound}
use Rattle.row_eval.specs.declared.frame.Output.{Output}
use Rattle.row_eval.specs.declared.stage.Stage.{Stage}
use Rattle.row_eval.specs.Answered.{AreOutputsOf}
use Rattle.row_eval.specs.Plans.{items_in}
use Rattle.row_eval.specs.Scopes.{Placed, placed, reach_under}
use Rattle.row_eval.specs.Slots.{lent_rows}
use Rattle.row_eval.specs.Stages.{found, visits, Collects}
use Rattle.sql_algebra.specs.RowReads.{select_reads}
use Rattle.row_eval.proofs.AnswerLemmas.{columns_sound, answered}
use Rattle.row_eval.proofs.SortLemmas.{if_ok}
use Rattle.row_eval.proofs.evaluator.run_select.Goals as goal

pub outputs_of-requires : goal.outputs_of-requires
outputs_of-requires g c =
    let catalog = c.args.planner.now.catalog.now in
    let select = c.args.select.now in
    let same : placed c.as_slice-2.result.now ≡ reach_under select.from [] =
    ap placed c.as_slice-2.ensures.value ∙ c.in_ok-reach.ensures ∙ ap (λ (items : List FromItem). reach_under items []) c.as_slice.ensures in
    let all = λ (reach : List Placed) (columns : List SelectColumn). list_all (λ (column : SelectColumn). value_is_sound catalog (items_in reach) column.value) columns in
    ap (λ (reach : List Placed). all reach c.as_slice-columns.result.now) same ∙ ap (all (reach_under select.from [])) c.as_slice-columns.ensures
    ∙ columns_sound catalog (g.R.RowSource.tables c.args.planner.now.rows.now) c.requires.meets select c.requires.sound

pub returns-clause-rows : goal.returns-clause-rows
returns-clause-rows g c =
    let T = g.R.RowSource.tables c.args.planner.now.rows.now in
    let catalog = c.args.planner.now.catalog.now in
    let select = c.args.select.now in
    let outputs = c.in_ok-outputs.outputs in
    let stages = c.in_ok-planned.planned.stages in
    let same : placed c.as_slice-2.result.now ≡ reach_under select.from [] =
    ap placed c.as_slice-2.ensures.value ∙ c.in_ok-reach.ensures ∙ ap (λ (items : List FromItem). reach_under items []) c.as_slice.ensures in
    let are : AreOutputsOf catalog (reach_under select.from []) select.columns outputs =
    subst (λ (columns : List SelectColumn). AreOutputsOf catalog (reach_under select.from []) columns outputs) c.as_slice-columns.ensures
    (subst (λ (reach : List Placed). AreOutputsOf catalog reach c.as_slice-columns.result.now outputs) same c.in_ok-outputs.ensures) in
    if_ok c.run.result _ _
    (λ all h. answered catalog T c.requires.meets select c.requires.sound stages outputs c.in_ok-planned.ensures.found are 1000000 c.args.out.now c.run.new.out all
    (subst (λ (s : List (Bor Row)). Collects outputs 1000000 c.args.out.now c.run.new.out (found T stages (lent_rows s)) all) c.new-stack.ensures.items
    (subst (λ (o : List Output). Collects o 1000000 c.args.out.now c.run.new.out (found T stages (lent_rows c.new-stack.result.items)) all) c.as_slice-4.ensures
    (subst (λ (l : List Stage). Collects c.as_slice-4.result.now 1000000 c.args.out.now c.run.new.out (found T l (lent_rows c.new-stack.result.items)) all) c.as_slice-5.ensures
    h))))
    c.run.ensures.collects

pub returns-clause-steps : goal.returns-clause-steps
returns-clause-steps g c =
    let T = g.R.RowSource.tables c.args.planner.now.rows.now in
    let stages = c.in_ok-planned.planned.stages in
    let planned = c.plan.ensures.steps in
    let read = c.run.ensures.steps in
    let same : visits T c.as_slice-5.result.now (lent_rows c.new-stack.result.items) ≡ visits T stages [] =
    ap (λ (l : List Stage). visits T l (lent_rows c.new-stack.result.items)) c.as_slice-5.ensures
    ∙ ap (λ (s : List (Bor Row)). visits T stages (lent_rows s)) c.new-stack.ensures.items in
    let within : visits T stages [] ≤ select_reads c.args.planner.now.catalog.now T c.args.select.now [] = c.in_ok-planned.ensures.within [] refl tt in
    omega (arith, planned, read, same, within)
