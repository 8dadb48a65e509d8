use Rattle.std.proofs.Common.{rules, ◌≡◌, ◌∙◌, ◌+◌, ◌<◌, ◌≤◌, ◌++◌, [], ◌∷◌, List, ℕ, Some, None, Option, length, get_or, drop, map, cond, sym, ap, is_some, slice_get, true}
use Rattle.std.proofs.Common.{bytes_eq, Bor}
use Rattle.std.specs.List.{flat_map}
use Rattle.view_check.specs.GraphRules.{properties_in}
use Rattle.view_check.specs.Firsts.{first_named, or_first}
use Rattle.view_check.proofs.FirstLemmas.{refs_step}
use Rattle.view_check.proofs.firsts.firsts_of.Goals as goal

pub loop-element-preserved : goal.loop-element-preserved
loop-element-preserved c =
    let i : ℕ = c.loop-element.element-index in
    let within : i < length c.args.elements.now = search rules in (
      c.in_ok-state.ensures.left,
      λ q.
          ap (λ p. or_first p (first_named (flat_map (properties_in c.args.entries.now) (map (λ e. e.now) (drop (i + 1) c.args.elements.now))) q)) (c.in_ok-state.ensures.value q)
          ∙ refs_step c.args.entries.now (first_named c.loop-element.state.firsts q) q c.args.elements.now i c.element-item.result within c.element-item.is
          ∙ c.loop-element.invariant.1 q,
    )
