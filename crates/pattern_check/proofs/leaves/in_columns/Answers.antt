use Rattle.std.proofs.Common.{rules, ◌∙◌, ◌+◌, ◌<◌, ap, drop, length}
use Rattle.std.specs.List.{flat_map}
use Rattle.graph_ast.specs.declared.query.Item.{Item}
use Rattle.first_faults.specs.Faults.{first_of}
use Rattle.pattern_check.specs.Scopes.{uses_in}
use Rattle.pattern_check.proofs.PatternSteps.{items_on}
use Rattle.pattern_check.proofs.leaves.in_columns.Goals as goal

pub loop-item-preserved : goal.loop-item-preserved
loop-item-preserved g c =
    let xs = c.args.columns.now in
    let w = g.R.LeafRule.faults c.args.rule.now in
    let around = c.args.around.now in
    let within : c.loop-item.item-index < length c.args.columns.now = search rules in
    ap (λ o. first_of o (flat_map w (flat_map (λ (item : Item). uses_in around item.value) (drop (c.loop-item.item-index + 1) xs)))) c.in_condition-found.ensures
    ∙ items_on w (λ (item : Item). uses_in around item.value) c.loop-item.found xs c.loop-item.item-index c.item-item.result within c.item-item.is ∙ c.loop-item.invariant
