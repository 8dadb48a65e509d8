use Rattle.std.proofs.Common.{rules, ◌∙◌, ◌+◌, ◌<◌, ap, drop, length}
use Rattle.std.specs.List.{flat_map}
use Rattle.first_faults.specs.Faults.{first_of}
use Rattle.pattern_check.specs.Scopes.{path_conditions}
use Rattle.pattern_check.specs.TypeRules.{leaf_class, where_faults}
use Rattle.pattern_check.proofs.PatternSteps.{items_on}
use Rattle.pattern_check.proofs.wheres.in_paths.Goals as goal

pub loop-path-preserved : goal.loop-path-preserved
loop-path-preserved c =
    let xs = c.args.paths.now in
    let w = where_faults (leaf_class c.args.catalog.now c.args.graph.now) in
    let within : c.loop-path.path-index < length c.args.paths.now = search rules in
    ap (λ o. first_of o (flat_map w (flat_map path_conditions (drop (c.loop-path.path-index + 1) xs)))) c.in_union-found.ensures
    ∙ items_on w path_conditions c.loop-path.found xs c.loop-path.path-index c.path-item.result within c.path-item.is ∙ c.loop-path.invariant
