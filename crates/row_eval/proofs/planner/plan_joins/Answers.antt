use Rattle.std.proofs.Common.{◌≡◌, ◌+◌, ◌-◌, ◌<◌, ◌^◌, true, length, sym, ap, subst, ◌∙◌, arith}
use Rattle.std.specs.List.{list_all}
use Rattle.sql_algebra.specs.Soundness.{condition_is_sound}
use Rattle.row_eval.specs.Scopes.{placed}
use Rattle.row_eval.specs.Plans.{items_in, conditions_in}
use Rattle.row_eval.specs.Served.{AllServed}
use Rattle.row_eval.proofs.StageLemmas.{accesses-Keep}
use Rattle.row_eval.proofs.PlanLemmas.{sound_parts, reach_items}
use Rattle.row_eval.proofs.PlannerLemmas.{legs_below, legs_within, legs_long, reach_size, joins_plan}
use Rattle.row_eval.proofs.ReadsLemmas.{joins_within, legs_read}
use Rattle.row_eval.proofs.planner.plan_joins.Goals as goal

pub sort_conditions-requires-clause-sound : goal.sort_conditions-requires-clause-sound
sort_conditions-requires-clause-sound g c =
    let catalog = c.args.planner.now.catalog.now in
    let select = c.args.select.now in
    let outer = placed c.args.outer.now in
    subst (λ items. list_all (condition_is_sound catalog items) (conditions_in select.from select.conjuncts) ≡ true)
    (sym (ap items_in c.requires.reach ∙ reach_items select.from outer)) (sound_parts catalog select (items_in outer) c.requires.sound).conditions

pub sort_conditions-requires-clause-below : goal.sort_conditions-requires-clause-below
sort_conditions-requires-clause-below g c = legs_below c.args.reach.now c.args.select.now.from c.args.outer.now c.requires.reach c.requires.below

pub join_all-requires-clause-tables : goal.join_all-requires-clause-tables
join_all-requires-clause-tables g c =
    legs_within c.args.planner.now.catalog.now (g.R.RowSource.tables c.args.planner.now.rows.now) c.requires.meets c.args.select.now (placed c.args.outer.now) c.requires.sound
    c.in_ok-sorted.sorted.legs.items c.in_ok-sorted.ensures.tables

pub returns-clause-found : goal.returns-clause-found
returns-clause-found g c =
    let long : length c.in_ok-sorted.sorted.legs.items ≡ length c.args.select.now.from =
    legs_long c.args.planner.now.catalog.now c.in_ok-sorted.sorted.legs.items c.args.select.now.from c.in_ok-sorted.ensures.tables in
    let size : length c.args.reach.now
    ≡ length c.args.select.now.from + length c.args.outer.now = reach_size c.args.reach.now c.args.select.now.from c.args.outer.now c.requires.reach in
    let small : length c.args.outer.now + length c.in_ok-sorted.sorted.legs.items < 2 ^ 64 - 1 = omega arith in
    joins_plan c.args.planner.now.catalog.now
    (g.R.RowSource.tables c.args.planner.now.rows.now) c.requires.meets c.args.select.now c.args.outer.now c.args.reach.now c.requires.sound c.requires.below c.requires.reach
    c.in_ok-sorted.sorted c.args.end.stages c.in_ok-joined.joined.stages c.in_ok-stages.stages c.in_ok-stages.ensures c.in_ok-joined.ensures.found c.requires.end small
    c.in_ok-sorted.ensures.sorted c.in_ok-sorted.ensures.narrow c.in_ok-sorted.ensures.tables c.in_ok-sorted.ensures.all

pub returns-clause-within : goal.returns-clause-within
returns-clause-within g c =
    let long : length c.in_ok-sorted.sorted.legs.items ≡ length c.args.select.now.from =
    legs_long c.args.planner.now.catalog.now c.in_ok-sorted.sorted.legs.items c.args.select.now.from c.in_ok-sorted.ensures.tables in
    let size : length c.args.reach.now
    ≡ length c.args.select.now.from + length c.args.outer.now = reach_size c.args.reach.now c.args.select.now.from c.args.outer.now c.requires.reach in
    let small : length c.args.outer.now + length c.in_ok-sorted.sorted.legs.items < 2 ^ 64 - 1 = omega arith in
    joins_within c.args.planner.now.catalog.now
    (g.R.RowSource.tables c.args.planner.now.rows.now) c.requires.meets c.args.select.now c.args.outer.now c.args.reach.now c.requires.sound c.requires.below c.requires.reach
    c.in_ok-sorted.sorted c.args.end.stages c.in_ok-joined.joined.stages c.in_ok-stages.stages c.in_ok-stages.ensures c.in_ok-joined.ensures.visits c.requires.within small
    c.in_ok-sorted.ensures.sorted c.in_ok-sorted.ensures.tables c.in_ok-sorted.ensures.all

pub returns-in_err-joined-clause-steps : goal.returns-in_err-joined-clause-steps
returns-in_err-joined-clause-steps g c =
    let read = c.join_all.ensures.steps in
    let same = legs_read c.args.planner.now.catalog.now
    (g.R.RowSource.tables c.args.planner.now.rows.now) c.in_ok-sorted.sorted.legs.items c.args.select.now.from c.in_ok-sorted.ensures.tables in
    omega (arith, read, same)

pub returns-in_err-stages-clause-steps : goal.returns-in_err-stages-clause-steps
returns-in_err-stages-clause-steps g c =
    let read = c.join_all.ensures.steps in
    let same = legs_read c.args.planner.now.catalog.now
    (g.R.RowSource.tables c.args.planner.now.rows.now) c.in_ok-sorted.sorted.legs.items c.args.select.now.from c.in_ok-sorted.ensures.tables in
    omega (arith, read, same)

pub returns-clause-served : goal.returns-clause-served
returns-clause-served g c =
    let T = g.R.RowSource.tables c.args.planner.now.rows.now in
    let joined = c.in_ok-joined.joined in
    subst (AllServed T joined.indexes.items) (sym (accesses-Keep c.in_ok-stages.stages c.in_ok-sorted.sorted.first joined.stages c.in_ok-stages.ensures))
    (c.in_ok-joined.ensures.served c.requires.served)

pub returns-clause-steps : goal.returns-clause-steps
returns-clause-steps g c =
    let read = c.join_all.ensures.steps in
    let same = legs_read c.args.planner.now.catalog.now
    (g.R.RowSource.tables c.args.planner.now.rows.now) c.in_ok-sorted.sorted.legs.items c.args.select.now.from c.in_ok-sorted.ensures.tables in
    omega (arith, read, same)
