use Rattle.std.proofs.Common.{rules, ◌≡◌, ◌∙◌, ◌+◌, ◌<◌, ◌≤◌, ◌++◌, [], ◌∷◌, List, ℕ, Some, None, Option, length, get_or, drop, map, cond, sym, ap, is_some, slice_get, true}
use Rattle.std.proofs.Common.{bytes_eq, Bor}
use Rattle.view_check.specs.GraphRules.{table_place}
use Rattle.view_check.specs.Firsts.{first_named, or_first}
use Rattle.view_check.proofs.FirstLemmas.{known_in, unknown_in, or_none}
use Rattle.view_check.proofs.firsts.with_known.Goals as goal

pub returns-in-None-clause-value : goal.returns-in-None-clause-value
returns-in-None-clause-value c = λ q.
    let none : slice_get c.args.entries.now (table_place c.args.entries.now c.args.element.now.table.name) ≡ None = search rules in
    sym (ap (λ l. or_first (first_named c.args.state.firsts q) (first_named l q)) (sym (unknown_in c.args.entries.now c.args.element.now none))
    ∙ or_none (first_named c.args.state.firsts q))

pub returns-in_ok-with_element-in-Some-clause-value : goal.returns-in_ok-with_element-in-Some-clause-value
returns-in_ok-with_element-in-Some-clause-value c = λ q.
    let some : slice_get c.args.entries.now (table_place c.args.entries.now c.args.element.now.table.name) ≡ Some c.in-Some.entry.now = search rules in
    c.in_ok-with_element-in-Some.ensures.value q
    ∙ ap (λ l. or_first (first_named c.args.state.firsts q) (first_named l q)) (known_in c.args.entries.now c.args.element.now c.in-Some.entry.now some)
