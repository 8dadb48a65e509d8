use Rattle.std.proofs.Common.{rules, ◌≡◌, ◌∙◌, ◌+◌, ◌<◌, ◌≤◌, ◌++◌, [], ◌∷◌, List, ℕ, Some, None, Option, length, get_or, drop, map, cond, sym, ap, subst, is_some, slice_get}
use Rattle.std.proofs.Common.{true, bytes_eq, Bor, MatchOption}
use Rattle.view_check.specs.Firsts.{IsCovered}
use Rattle.view_check.proofs.FirstLemmas.{rest_enough}
use Rattle.view_check.proofs.firsts.with_rest.Goals as goal

pub returns-in_ok-with_names-in-Some : goal.returns-in_ok-with_names-in-Some
returns-in_ok-with_names-in-Some c = λ q.
    let covered : IsCovered c.args.entry.now c.in-Some.names.now c.args.firsts =
    subst (λ o. MatchOption o (Unit {0}) (λ (names : Bor _). IsCovered c.args.entry.now names.now c.args.firsts)) c.in-Some.is c.requires.covered in
    c.in_ok-with_names-in-Some.ensures q ∙ rest_enough c.args.entry.now c.in-Some.names.now c.args.at.1.now c.args.at.0 c.args.firsts covered q
