use Rattle.std.proofs.Common.{rules, ◌∙◌, ◌+◌, ◌<◌, ap, drop, length}
use Rattle.std.specs.List.{flat_map}
use Rattle.first_faults.specs.Faults.{first_of}
use Rattle.pattern_check.specs.NameRules.{unknown_label, path_labels}
use Rattle.pattern_check.proofs.PatternSteps.{items_on}
use Rattle.pattern_check.proofs.labels.unknown_labels.Goals as goal

pub loop-path-preserved : goal.loop-path-preserved
loop-path-preserved c =
    let xs = c.args.paths.now in
    let w = unknown_label c.args.graph.now in
    let within : c.loop-path.path-index < length c.args.paths.now = search rules in
    ap (λ o. first_of o (flat_map w (flat_map path_labels (drop (c.loop-path.path-index + 1) xs)))) c.in_union-found.ensures
    ∙ items_on w path_labels c.loop-path.found xs c.loop-path.path-index c.path-item.result within c.path-item.is ∙ c.loop-path.invariant
