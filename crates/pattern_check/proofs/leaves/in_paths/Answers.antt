use Rattle.std.proofs.Common.{rules, ◌∙◌, ◌+◌, ◌<◌, ap, drop, length}
use Rattle.std.specs.List.{flat_map}
use Rattle.first_faults.specs.Faults.{first_of}
use Rattle.pattern_check.specs.Scopes.{path_uses}
use Rattle.pattern_check.proofs.PatternSteps.{items_on}
use Rattle.pattern_check.proofs.leaves.in_paths.Goals as goal

pub loop-path-preserved : goal.loop-path-preserved
loop-path-preserved g c =
    let xs = c.args.paths.now in
    let w = g.R.LeafRule.faults c.args.rule.now in
    let within : c.loop-path.path-index < length c.args.paths.now = search rules in
    ap (λ o. first_of o (flat_map w (flat_map path_uses (drop (c.loop-path.path-index + 1) xs)))) c.in_ok-found.ensures
    ∙ items_on w path_uses c.loop-path.found xs c.loop-path.path-index c.path-item.result within c.path-item.is ∙ c.loop-path.invariant
