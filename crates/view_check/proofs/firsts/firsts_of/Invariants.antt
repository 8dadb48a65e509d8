use Rattle.std.proofs.Common.{◌≡◌, ℕ, List, map, drop}
use Rattle.std.specs.List.{flat_map}
use Rattle.view_check.specs.GraphRules.{properties_in}
use Rattle.view_check.specs.Firsts.{first_named, or_first, AreLeft}
use Rattle.view_check.proofs.firsts.firsts_of.Given as goal

abbrev pub invariant-loop-element : goal.invariant-loop-element
invariant-loop-element l =
    (AreLeft l.entries l.state.left l.state.firsts) ×
    ((q : List ℕ) →
    or_first (first_named l.state.firsts q) (first_named (flat_map (properties_in l.entries) (map (λ e. e.now) (drop l.element-index l.elements))) q) ≡
    first_named (flat_map (properties_in l.entries) (map (λ e. e.now) l.elements)) q)
