use Rattle.std.proofs.Common.{◌≡◌, ℕ, List, drop}
use Rattle.std.specs.List.{flat_map}
use Rattle.view_check.specs.GraphRules.{exposed_by}
use Rattle.view_check.specs.Firsts.{first_named, or_first}
use Rattle.view_check.proofs.firsts.with_all_listed.Given as goal

abbrev pub invariant-loop-property : goal.invariant-loop-property
invariant-loop-property l = (q : List ℕ) →
    or_first (first_named l.firsts q) (first_named (flat_map (exposed_by l.entry) (drop l.property-index l.properties)) q) ≡
    or_first (first_named l.fn.firsts q) (first_named (flat_map (exposed_by l.entry) l.properties) q)
