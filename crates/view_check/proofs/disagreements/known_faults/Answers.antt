use Rattle.std.proofs.Common.{rules, ◌≡◌, ◌∙◌, ◌+◌, ◌<◌, ◌≤◌, ◌++◌, [], ◌∷◌, List, ℕ, not, Some, None, Option, length, get_or, drop, map, cond, sym, ap, subst, is_some}
use Rattle.std.proofs.Common.{slice_get, true, bytes_eq, Bor, MatchOption}
use Rattle.first_faults.specs.Faults.{first_of}
use Rattle.view_check.specs.GraphRules.{table_place}
use Rattle.view_check.specs.Firsts.{against}
use Rattle.view_check.proofs.FirstLemmas.{known_in, unknown_in}
use Rattle.view_check.proofs.disagreements.known_faults.Goals as goal

pub returns-in-None-clause-found : goal.returns-in-None-clause-found
returns-in-None-clause-found c =
    let none : slice_get c.args.entries.now (table_place c.args.entries.now c.args.element.now.table.name) ≡ None = search rules in
    ap (λ l. first_of c.args.state.found (against c.args.by.1 c.args.by.0.now l)) (unknown_in c.args.entries.now c.args.element.now none)

pub returns-in_ok-element_faults-in-Some-clause-found : goal.returns-in_ok-element_faults-in-Some-clause-found
returns-in_ok-element_faults-in-Some-clause-found c =
    let some : slice_get c.args.entries.now (table_place c.args.entries.now c.args.element.now.table.name) ≡ Some c.in-Some.entry.now = search rules in
    c.in_ok-element_faults-in-Some.ensures.found
    ∙ ap (λ l. first_of c.args.state.found (against c.args.by.1 c.args.by.0.now l)) (known_in c.args.entries.now c.args.element.now c.in-Some.entry.now some)
