use Rattle.std.proofs.Common.{rules, ◌∙◌, ℕ, ◌+◌, ◌<◌, List, length, drop, sym, ap}
use Rattle.std.specs.List.{flat_map}
use Rattle.sql_algebra.specs.declared.text.SelectText.{SelectText}
use Rattle.first_faults.specs.declared.faults.Fault.{Fault}
use Rattle.first_faults.specs.Faults.{first_of}
use Rattle.first_faults.proofs.Steps.{flat_step}
use Rattle.sql_reader.specs.Levels.{reach_of}
use Rattle.sql_reader.specs.Phases.{select_faults}
use Rattle.sql_reader.proofs.phases.selects_faults.Goals as goal

pub loop-select-preserved : goal.loop-select-preserved
loop-select-preserved c =
    let i : ℕ = c.loop-select.select-index in
    let faults : SelectText → List Fault = λ t. select_faults c.args.phase c.args.tables.now t (reach_of c.args.outer.now) in
    let within : c.loop-select.select-index < length c.args.selects.now = search rules in
    ap (λ f. first_of f (flat_map faults (drop (i + 1) c.args.selects.now))) c.in_ok-found.ensures
    ∙ sym (flat_step faults c.loop-select.found c.args.selects.now i c.select-item.result within c.select-item.is) ∙ c.loop-select.invariant
