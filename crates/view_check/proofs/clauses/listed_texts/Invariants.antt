use Rattle.std.proofs.Common.{◌≡◌, ◌++◌, map, drop}
use Rattle.std.specs.List.{flat_map}
use Rattle.view_check.specs.GraphRules.{exposed_by}
use Rattle.view_check.proofs.clauses.listed_texts.Given as goal

abbrev pub invariant-loop-property : goal.invariant-loop-property
invariant-loop-property l =
    l.texts ++ map (λ p. p.name) (flat_map (exposed_by l.entry) (drop l.property-index l.properties)) ≡ map (λ p. p.name) (flat_map (exposed_by l.entry) l.properties)
