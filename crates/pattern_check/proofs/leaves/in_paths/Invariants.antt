use Rattle.std.proofs.Common.{◌≡◌, drop}
use Rattle.std.specs.List.{flat_map}
use Rattle.first_faults.specs.Faults.{first_of}
use Rattle.pattern_check.specs.Scopes.{path_uses}
use Rattle.pattern_check.proofs.leaves.in_paths.Given as goal

abbrev pub invariant-loop-path : goal.invariant-loop-path
invariant-loop-path g l =
    first_of l.found (flat_map (g.R.LeafRule.faults l.rule) (flat_map path_uses (drop l.path-index l.paths))) ≡
    first_of l.fn.first (flat_map (g.R.LeafRule.faults l.rule) (flat_map path_uses l.paths))
