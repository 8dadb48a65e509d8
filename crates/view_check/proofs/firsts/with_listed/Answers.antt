use Rattle.std.proofs.Common.{rules, ◌≡◌, ◌∙◌, ◌+◌, ◌<◌, ◌≤◌, ◌++◌, [], ◌∷◌, List, ℕ, Some, None, Option, length, get_or, drop, map, cond, sym, ap, is_some, slice_get, true}
use Rattle.std.proofs.Common.{bytes_eq, Bor}
use Rattle.view_check.specs.GraphRules.{exposed_by}
use Rattle.view_check.specs.Firsts.{first_named, or_first}
use Rattle.view_check.proofs.FirstLemmas.{first_append}
use Rattle.view_check.proofs.firsts.with_listed.Goals as goal

pub returns : goal.returns
returns c = λ q.
    let is : exposed_by c.args.entry.now c.args.property.now ≡ c.in_ok-item.item ∷ [] = search rules in
    ap (λ l. first_named l q) c.in_ok-with.ensures
    ∙ first_append c.args.firsts (c.in_ok-item.item ∷ []) q
    ∙ ap (λ l. or_first (first_named c.args.firsts q) (first_named l q)) (sym is)
