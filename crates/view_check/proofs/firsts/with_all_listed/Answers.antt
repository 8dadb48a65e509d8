use Rattle.std.proofs.Common.{rules, ◌≡◌, ◌∙◌, ◌+◌, ◌<◌, ◌≤◌, ◌++◌, [], ◌∷◌, List, ℕ, Some, None, Option, length, get_or, drop, map, cond, sym, ap, is_some, slice_get, true}
use Rattle.std.proofs.Common.{bytes_eq, Bor}
use Rattle.std.specs.List.{flat_map}
use Rattle.view_check.specs.GraphRules.{exposed_by}
use Rattle.view_check.specs.Firsts.{first_named, or_first}
use Rattle.view_check.proofs.FirstLemmas.{lists_step, lists_end}
use Rattle.view_check.proofs.firsts.with_all_listed.Goals as goal

pub loop-property-preserved : goal.loop-property-preserved
loop-property-preserved c = λ q.
    let i : ℕ = c.loop-property.property-index in
    let within : i < length c.args.properties.now = search rules in
    ap (λ p. or_first p (first_named (flat_map (exposed_by c.args.entry.now) (drop (i + 1) c.args.properties.now)) q)) (c.in_ok-firsts.ensures q)
    ∙ lists_step (exposed_by c.args.entry.now) (first_named c.loop-property.firsts q) q c.args.properties.now i c.property-item.result within c.property-item.is
    ∙ c.loop-property.invariant q

pub returns : goal.returns
returns c = λ q.
    let end : length c.args.properties.now ≤ c.loop-property.property-index = search rules in
    lists_end (exposed_by c.args.entry.now) (first_named c.loop-property.firsts q) q c.args.properties.now c.loop-property.property-index end
    ∙ c.loop-property.invariant q
