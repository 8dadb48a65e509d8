use Rattle.std.proofs.Common.{◌≡◌, drop}
use Rattle.std.specs.List.{flat_map}
use Rattle.first_faults.specs.Faults.{first_of}
use Rattle.view_check.specs.GraphRules.{exposed_in, properties_of}
use Rattle.view_check.specs.Firsts.{against, AreBad}
use Rattle.view_check.proofs.disagreements.element_faults.Given as goal

abbrev pub invariant-loop-label : goal.invariant-loop-label
invariant-loop-label l =
    (AreBad l.entries l.by.1 l.by.0.now l.state.bad) ×
    (first_of l.state.found (against l.by.1 l.by.0.now (flat_map (λ x. exposed_in l.at.1.now x.span x.properties) (drop l.label-index l.element.labels))) ≡
    first_of l.fn.state.found (against l.by.1 l.by.0.now (properties_of l.at.1.now l.element)))
