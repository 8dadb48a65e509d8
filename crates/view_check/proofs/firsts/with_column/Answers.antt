use Rattle.std.proofs.Common.{rules, ◌≡◌, ◌∙◌, ◌+◌, ◌<◌, ◌≤◌, ◌++◌, [], ◌∷◌, List, ℕ, Some, None, Option, length, get_or, drop, map, cond, sym, ap, is_some, slice_get, true}
use Rattle.std.proofs.Common.{bytes_eq, Bor}
use Rattle.view_check.specs.declared.exposed.Exposed.{Exposed}
use Rattle.view_check.specs.Firsts.{first_named, all_but}
use Rattle.view_check.proofs.FirstLemmas.{kept, missing, put, all_but_named}
use Rattle.view_check.proofs.firsts.with_column.Goals as goal

pub returns-then-has : goal.returns-then-has
returns-then-has c = kept c.args.firsts c.args.name.now (all_but c.args.entry.now c.args.at.1.now c.args.at.0) (search rules)

pub returns-in-None : goal.returns-in-None
returns-in-None c = missing c.args.firsts c.args.name.now (all_but c.args.entry.now c.args.at.1.now c.args.at.0) (search rules)

pub with-requires : goal.with-requires
with-requires c = record { named = all_but_named c.args.entry.now c.args.at.1.now c.args.at.0 c.args.name.now c.in-Some.item (search rules) }

pub returns-in_ok-with-in-Some : goal.returns-in_ok-with-in-Some
returns-in_ok-with-in-Some c = λ q.
    let is : all_but c.args.entry.now c.args.at.1.now c.args.at.0 c.args.name.now ≡ Some c.in-Some.item = search rules in
    ap (λ l. first_named l q) c.in_ok-with-in-Some.ensures
    ∙ put c.args.firsts c.args.name.now c.in-Some.item (all_but c.args.entry.now c.args.at.1.now c.args.at.0)
    (all_but_named c.args.entry.now c.args.at.1.now c.args.at.0 c.args.name.now c.in-Some.item is) is q
