use Rattle.std.proofs.Common.{◌+◌, ◌≤◌, length, sym, ap, subst}
use Rattle.row_eval.specs.Levels.{level_in}
use Rattle.row_eval.specs.Scopes.{placed}
use Rattle.row_eval.proofs.SortLemmas.{resolved_level, legs_alike, adds_one}
use Rattle.row_eval.proofs.sorting.sort_in.Goals as goal

pub put_in-requires-clause-decided : goal.put_in-requires-clause-decided
put_in-requires-clause-decided c =
    let most = c.args.depth + length c.args.sorted.legs.items in
    let same = ap (λ n. c.args.depth + n) (legs_alike c.in_ok-narrowed.narrowed.legs.items c.args.sorted.legs.items c.in_ok-narrowed.ensures.tables) in
    subst (λ n. level_in c.in_ok-resolved.resolved.expr ≤ n) (sym same)
    (subst (λ e. level_in e ≤ most) (sym c.in_ok-resolved.ensures) (resolved_level most c.args.catalog.now (placed c.args.reach.now) c.requires.below c.args.condition.now))

pub put_in-requires-clause-sorted : goal.put_in-requires-clause-sorted
put_in-requires-clause-sorted c = c.in_ok-narrowed.ensures.sorted c.requires.sorted

pub returns : goal.returns
returns c =
    let done = c.in_ok-done.ensures in
    adds_one c.args.catalog.now (placed c.args.reach.now) c.args.depth c.args.condition.now c.args.sorted c.in_ok-narrowed.narrowed c.in_ok-done.done
    c.in_ok-resolved.resolved.expr c.in_ok-resolved.ensures c.in_ok-narrowed.ensures done.all done.sorted done.tables done.ways
