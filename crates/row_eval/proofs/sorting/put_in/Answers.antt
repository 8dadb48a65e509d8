use Rattle.std.proofs.Common.{◌≡◌, ◌+◌, ◌-◌, ◌<◌, length, refl, arith}
use Rattle.row_eval.specs.declared.legs.Leg.{Leg}
use Rattle.row_eval.specs.Levels.{level_in}
use Rattle.row_eval.proofs.SortLemmas.{leg_more, leg_sorted, same_tables, same_ways}
use Rattle.row_eval.proofs.sorting.put_in.Goals as goal

pub returns-clause-all : goal.returns-clause-all
returns-clause-all c = λ test.
    let leg = c.index_mut.result.now in
    let new : Leg = record { table = leg.table; tests = c.push-2.new.self; ways = leg.ways } in
    let i = c.saturating_sub-number.result - 1 in
    let within : i < length c.args.sorted.legs.items = omega arith in
    leg_more leg new c.args.condition c.in_ok-push-2.ensures.ok refl test c.args.sorted.first c.args.sorted.legs.items i within c.index_mut.ensures.value

pub returns-clause-sorted : goal.returns-clause-sorted
returns-clause-sorted c =
    let leg = c.index_mut.result.now in
    let new : Leg = record { table = leg.table; tests = c.push-2.new.self; ways = leg.ways } in
    let i = c.saturating_sub-number.result - 1 in
    let within : i < length c.args.sorted.legs.items = omega arith in
    let level : level_in c.args.condition.expr ≡ c.args.depth + (i + 1) = omega arith in
    leg_sorted leg new c.args.condition c.in_ok-push-2.ensures.ok refl c.args.depth c.args.sorted.first c.args.sorted.legs.items i within c.index_mut.ensures.value level
    c.requires.sorted

pub returns-clause-tables : goal.returns-clause-tables
returns-clause-tables c =
    let leg = c.index_mut.result.now in
    let new : Leg = record { table = leg.table; tests = c.push-2.new.self; ways = leg.ways } in
    let i = c.saturating_sub-number.result - 1 in
    let within : i < length c.args.sorted.legs.items = omega arith in
    same_tables leg new c.args.condition c.in_ok-push-2.ensures.ok refl c.args.sorted.legs.items i within c.index_mut.ensures.value

pub returns-clause-ways : goal.returns-clause-ways
returns-clause-ways c =
    let leg = c.index_mut.result.now in
    let new : Leg = record { table = leg.table; tests = c.push-2.new.self; ways = leg.ways } in
    let i = c.saturating_sub-number.result - 1 in
    let within : i < length c.args.sorted.legs.items = omega arith in
    same_ways leg new refl c.args.sorted.legs.items i within c.index_mut.ensures.value
