use Rattle.std.proofs.Common.{rules, ◌≡◌, ◌∙◌, ◌+◌, ◌<◌, ◌≤◌, ◌++◌, [], ◌∷◌, List, ℕ, Some, None, Option, length, get_or, drop, map, cond, sym, ap, is_some, slice_get, true}
use Rattle.std.proofs.Common.{bytes_eq, Bor}
use Rattle.view_check.proofs.firsts.with_all_but.Goals as goal

pub with_rest-requires : goal.with_rest-requires
with_rest-requires c = record { covered = c.left_of-rest.ensures c.args.entries.now c.args.at.1.now c.args.state.firsts c.requires.place c.requires.left }
