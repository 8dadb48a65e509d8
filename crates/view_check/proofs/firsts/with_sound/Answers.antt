use Rattle.std.proofs.Common.{rules, ◌≡◌, ◌∙◌, ◌+◌, ◌<◌, ◌≤◌, ◌++◌, [], ◌∷◌, List, ℕ, Some, None, Option, length, get_or, drop, map, cond, sym, ap, is_some, slice_get, true}
use Rattle.std.proofs.Common.{bytes_eq, Bor}
use Rattle.view_check.specs.Firsts.{first_named, or_first}
use Rattle.view_check.specs.GraphRules.{is_sound}
use Rattle.view_check.proofs.FirstLemmas.{sound_first}
use Rattle.view_check.proofs.firsts.with_sound.Goals as goal

pub returns-in_ok-with_all_but-clause-value : goal.returns-in_ok-with_all_but-clause-value
returns-in_ok-with_all_but-clause-value c = λ q.
    let sound : is_sound c.args.at.1.now c.args.clause.1.now ≡ true = search rules in
    c.in_ok-with_all_but.ensures.value q ∙ ap (or_first (first_named c.args.state.firsts q)) (sound_first c.args.at.1.now c.args.clause.0 c.args.clause.1.now q sound)
