use Rattle.std.proofs.Common.{rules, ◌≡◌, ◌∙◌, ◌+◌, ◌<◌, ◌≤◌, ◌++◌, [], ◌∷◌, List, ℕ, not, Some, None, Option, length, get_or, drop, map, cond, sym, ap, subst, is_some}
use Rattle.std.proofs.Common.{slice_get, true, bytes_eq, Bor, MatchOption}
use Rattle.view_check.specs.GraphRules.{table_place}
use Rattle.view_check.specs.Clauses.{shown_by}
use Rattle.view_check.proofs.ClauseLemmas.{shown_known, shown_unknown}
use Rattle.view_check.proofs.labels.shown_in.Goals as goal

pub returns-in-None : goal.returns-in-None
returns-in-None c =
    let none : slice_get c.args.entries.now (table_place c.args.entries.now c.args.element.1.now.table.name) ≡ None = search rules in
    shown_unknown c.args.entries.now c.args.element.0 c.args.element.1.now (map (shown_by c.args.entries.now) c.args.all.now.items) none

pub returns-in_ok-shown_of-in-Some : goal.returns-in_ok-shown_of-in-Some
returns-in_ok-shown_of-in-Some c =
    let some : slice_get c.args.entries.now (table_place c.args.entries.now c.args.element.1.now.table.name) ≡ Some c.in-Some.entry.now = search rules in
    c.in_ok-shown_of-in-Some.ensures
    ∙ ap (λ l. map (shown_by c.args.entries.now) c.args.all.now.items ++ l) (shown_known c.args.entries.now c.args.element.0 c.args.element.1.now c.in-Some.entry.now some)
