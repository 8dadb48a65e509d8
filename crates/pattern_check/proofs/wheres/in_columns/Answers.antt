use Rattle.std.proofs.Common.{rules, ◌∙◌, ◌+◌, ◌<◌, List, ap, sym, drop, length}
use Rattle.std.specs.List.{flat_map}
use Rattle.graph_ast.specs.declared.query.Item.{Item}
use Rattle.first_faults.specs.declared.faults.Fault.{Fault}
use Rattle.first_faults.specs.Faults.{first_of}
use Rattle.first_faults.proofs.Steps.{flat_step}
use Rattle.pattern_check.specs.TypeRules.{leaf_class, condition_faults}
use Rattle.pattern_check.proofs.wheres.in_columns.Goals as goal

pub loop-item-preserved : goal.loop-item-preserved
loop-item-preserved c =
    let xs = c.args.columns.now in
    let here : Item → List Fault = λ (item : Item). condition_faults (leaf_class c.args.catalog.now c.args.graph.now) item.value in
    let within : c.loop-item.item-index < length c.args.columns.now = search rules in
    ap (λ o. first_of o (flat_map here (drop (c.loop-item.item-index + 1) xs))) c.condition_faults-found.ensures
    ∙ sym (flat_step here c.loop-item.found xs c.loop-item.item-index c.item-item.result within c.item-item.is) ∙ c.loop-item.invariant
