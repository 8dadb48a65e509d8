use Rattle.std.proofs.Common.{rules, ◌∙◌, ℕ, ◌+◌, ◌<◌, length, drop, sym, ap}
use Rattle.std.specs.List.{flat_map}
use Rattle.first_faults.specs.Faults.{first_of}
use Rattle.first_faults.proofs.Steps.{flat_step}
use Rattle.sql_reader.specs.Levels.{reach_of}
use Rattle.sql_reader.specs.Phases.{condition_faults}
use Rattle.sql_reader.proofs.phases.conditions_faults.Goals as goal

pub loop-condition-preserved : goal.loop-condition-preserved
loop-condition-preserved c =
    let i : ℕ = c.loop-condition.condition-index in
    let faults = condition_faults c.args.phase (reach_of c.args.scope.now) in
    let within : c.loop-condition.condition-index < length c.args.conditions.now = search rules in
    ap (λ f. first_of f (flat_map faults (drop (i + 1) c.args.conditions.now))) c.condition_faults-found.ensures
    ∙ sym (flat_step faults c.loop-condition.found c.args.conditions.now i c.condition-item.result within c.condition-item.is) ∙ c.loop-condition.invariant
