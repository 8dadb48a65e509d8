use Rattle.std.proofs.Common.{rules, ◌∙◌, ◌+◌, ◌<◌, ap, sym, drop, length}
use Rattle.std.specs.List.{flat_map}
use Rattle.first_faults.specs.Faults.{first_of}
use Rattle.first_faults.proofs.Steps.{flat_step}
use Rattle.pattern_check.specs.NameRules.{union_faults}
use Rattle.pattern_check.proofs.unions.unions_faults.Goals as goal

pub loop-path-preserved : goal.loop-path-preserved
loop-path-preserved c =
    let xs = c.args.paths.now in
    let within : c.loop-path.path-index < length c.args.paths.now = search rules in
    ap (λ o. first_of o (flat_map union_faults (drop (c.loop-path.path-index + 1) xs))) c.in_ok-found.ensures
    ∙ sym (flat_step union_faults c.loop-path.found xs c.loop-path.path-index c.path-item.result within c.path-item.is) ∙ c.loop-path.invariant
