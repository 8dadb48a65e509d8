use Rattle.std.proofs.Common.{◌≡◌, drop}
use Rattle.std.specs.List.{flat_map}
use Rattle.first_faults.specs.Faults.{first_of}
use Rattle.pattern_check.specs.Scopes.{path_conditions}
use Rattle.pattern_check.specs.TypeRules.{leaf_class, where_faults}
use Rattle.pattern_check.proofs.wheres.in_paths.Given as goal

abbrev pub invariant-loop-path : goal.invariant-loop-path
invariant-loop-path l =
    first_of l.found (flat_map (where_faults (leaf_class l.catalog l.graph)) (flat_map path_conditions (drop l.path-index l.paths))) ≡
    first_of l.fn.first (flat_map (where_faults (leaf_class l.catalog l.graph)) (flat_map path_conditions l.paths))
