use Rattle.std.proofs.Common.{◌≡◌, drop, map}
use Rattle.std.specs.List.{flat_map}
use Rattle.first_faults.specs.Faults.{first_of}
use Rattle.pattern_check.specs.NameRules.{unknown_label, labels_in, row_labels}
use Rattle.pattern_check.proofs.labels.+labels.Given as goal

abbrev pub invariant-in_labels-loop-expr : goal.invariant-in_labels-loop-expr
invariant-in_labels-loop-expr l =
    first_of l.found (flat_map (unknown_label l.graph) (row_labels (map labels_in (drop l.expr-index l.list)))) ≡
    first_of l.fn.first (flat_map (unknown_label l.graph) (row_labels (map labels_in l.list)))
