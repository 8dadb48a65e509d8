use Rattle.std.proofs.Common.{◌≡◌, drop}
use Rattle.std.specs.List.{flat_map}
use Rattle.graph_ast.specs.declared.query.Item.{Item}
use Rattle.first_faults.specs.Faults.{first_of}
use Rattle.pattern_check.specs.Scopes.{uses_in}
use Rattle.pattern_check.proofs.leaves.in_columns.Given as goal

abbrev pub invariant-loop-item : goal.invariant-loop-item
invariant-loop-item g l =
    first_of l.found (flat_map (g.R.LeafRule.faults l.rule) (flat_map (λ (item : Item). uses_in l.around item.value) (drop l.item-index l.columns))) ≡
    first_of l.fn.first (flat_map (g.R.LeafRule.faults l.rule) (flat_map (λ (item : Item). uses_in l.around item.value) l.columns))
