use Rattle.std.proofs.Common.{◌≡◌, ℕ, List, drop}
use Rattle.std.specs.List.{flat_map}
use Rattle.view_check.specs.GraphRules.{exposed_in, properties_of}
use Rattle.view_check.specs.Firsts.{first_named, or_first, AreLeft}
use Rattle.view_check.proofs.firsts.with_element.Given as goal

abbrev pub invariant-loop-label : goal.invariant-loop-label
invariant-loop-label l =
    (AreLeft l.entries l.state.left l.state.firsts) ×
    ((q : List ℕ) →
    or_first (first_named l.state.firsts q) (first_named (flat_map (λ x. exposed_in l.at.1.now x.span x.properties) (drop l.label-index l.element.labels)) q) ≡
    or_first (first_named l.fn.state.firsts q) (first_named (properties_of l.at.1.now l.element) q))
