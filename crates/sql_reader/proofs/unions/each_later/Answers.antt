use Rattle.std.proofs.Common.{rules, ◌∙◌, ℕ, ◌+◌, ◌<◌, length, drop, sym, ap}
use Rattle.std.specs.List.{flat_map}
use Rattle.first_faults.specs.Faults.{first_of}
use Rattle.first_faults.proofs.Steps.{flat_step}
use Rattle.sql_reader.specs.Phases.{later_faults}
use Rattle.sql_reader.proofs.unions.each_later.Goals as goal

pub loop-select-preserved : goal.loop-select-preserved
loop-select-preserved c =
    let i : ℕ = c.loop-select.select-index in
    let faults = later_faults c.args.tables.now c.args.classes.now in
    let within : c.loop-select.select-index < length c.args.later.now = search rules in
    ap (λ f. first_of f (flat_map faults (drop (i + 1) c.args.later.now))) c.in_ok-found.ensures
    ∙ sym (flat_step faults c.loop-select.found c.args.later.now i c.select-item.result within c.select-item.is) ∙ c.loop-select.invariant
