use Rattle.std.proofs.Common.{◌≡◌, ◌+◌, ◌-◌, ◌<◌, length, refl, arith}
use Rattle.row_eval.specs.declared.legs.Leg.{Leg}
use Rattle.row_eval.proofs.SortLemmas.{narrows_leg}
use Rattle.row_eval.proofs.narrowing.narrow_at.Goals as goal

pub returns : goal.returns
returns c =
    let leg = c.index_mut.result.now in
    let new : Leg = record { table = leg.table; tests = leg.tests; ways = c.in_ok-ways.ways } in
    let i = c.args.place - c.args.depth in
    let leg_there = c.lacks_ways.ensures.leg c.if-not-lacks_ways.false in
    let not_below = c.lacks_ways.ensures.below c.if-not-lacks_ways.false in
    let within : i < length c.args.sorted.legs.items = omega (arith, leg_there) in
    let at : c.args.depth + i ≡ c.args.place = omega (arith, not_below) in
    narrows_leg leg new refl refl c.args.depth c.args.condition.now c.args.sorted _ i c.args.place within c.index_mut.ensures.value at refl refl c.in_ok-ways.ensures
