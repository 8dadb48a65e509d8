use Rattle.std.proofs.Common.{rules, ◌∙◌, ℕ, ◌+◌, ◌<◌, List, length, drop, sym, ap}
use Rattle.std.specs.List.{flat_map}
use Rattle.sql_algebra.specs.declared.text.ColumnText.{ColumnText}
use Rattle.first_faults.specs.declared.faults.Fault.{Fault}
use Rattle.first_faults.specs.Faults.{first_of}
use Rattle.first_faults.proofs.Steps.{flat_step}
use Rattle.sql_reader.specs.Levels.{reach_of}
use Rattle.sql_reader.specs.Phases.{value_faults}
use Rattle.sql_reader.proofs.phases.columns_faults.Goals as goal

pub loop-column-preserved : goal.loop-column-preserved
loop-column-preserved c =
    let i : ℕ = c.loop-column.column-index in
    let faults : ColumnText → List Fault = λ column. value_faults c.args.phase (reach_of c.args.scope.now) column.value in
    let within : c.loop-column.column-index < length c.args.columns.now = search rules in
    ap (λ f. first_of f (flat_map faults (drop (i + 1) c.args.columns.now))) c.value_faults-found.ensures
    ∙ sym (flat_step faults c.loop-column.found c.args.columns.now i c.column-item.result within c.column-item.is) ∙ c.loop-column.invariant
