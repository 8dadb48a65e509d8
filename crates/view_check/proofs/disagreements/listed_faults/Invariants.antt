use Rattle.std.proofs.Common.{◌≡◌, drop}
use Rattle.std.specs.List.{flat_map}
use Rattle.first_faults.specs.Faults.{first_of}
use Rattle.view_check.specs.GraphRules.{exposed_by}
use Rattle.view_check.specs.Firsts.{against}
use Rattle.view_check.proofs.disagreements.listed_faults.Given as goal

abbrev pub invariant-loop-property : goal.invariant-loop-property
invariant-loop-property l =
    first_of l.found (against l.by.1 l.by.0.now (flat_map (exposed_by l.entry) (drop l.property-index l.properties))) ≡
    first_of l.fn.first (against l.by.1 l.by.0.now (flat_map (exposed_by l.entry) l.properties))
