use Rattle.std.proofs.Common.{◌≡◌, drop}
use Rattle.std.specs.List.{flat_map}
use Rattle.first_faults.specs.Faults.{first_of}
use Rattle.pattern_check.specs.NameRules.{unknown_label, path_labels}
use Rattle.pattern_check.proofs.labels.unknown_labels.Given as goal

abbrev pub invariant-loop-path : goal.invariant-loop-path
invariant-loop-path l =
    first_of l.found (flat_map (unknown_label l.graph) (flat_map path_labels (drop l.path-index l.paths))) ≡
    first_of l.fn.first (flat_map (unknown_label l.graph) (flat_map path_labels l.paths))
