use Rattle.std.proofs.Common.{◌≡◌, map, drop}
use Rattle.std.specs.List.{flat_map}
use Rattle.first_faults.specs.Faults.{first_of}
use Rattle.view_check.specs.GraphRules.{properties_in}
use Rattle.view_check.specs.Firsts.{AreBad}
use Rattle.view_check.specs.Firsts as given
use Rattle.view_check.proofs.disagreements.against.Given as goal

abbrev pub invariant-loop-element : goal.invariant-loop-element
invariant-loop-element l =
    (AreBad l.entries l.by.1 l.by.0.now l.state.bad) ×
    (first_of l.state.found (given.against l.by.1 l.by.0.now (flat_map (properties_in l.entries) (map (λ e. e.now) (drop l.element-index l.elements)))) ≡
    first_of l.fn.first (given.against l.by.1 l.by.0.now (flat_map (properties_in l.entries) (map (λ e. e.now) l.elements))))
