use Rattle.std.proofs.Common.{◌≡◌, drop}
use Rattle.std.specs.List.{flat_map}
use Rattle.graph_ast.specs.declared.query.Item.{Item}
use Rattle.first_faults.specs.Faults.{first_of}
use Rattle.pattern_check.specs.TypeRules.{leaf_class, condition_faults}
use Rattle.pattern_check.proofs.wheres.in_columns.Given as goal

abbrev pub invariant-loop-item : goal.invariant-loop-item
invariant-loop-item l =
    first_of l.found (flat_map (λ (item : Item). condition_faults (leaf_class l.catalog l.graph) item.value) (drop l.item-index l.columns)) ≡
    first_of l.fn.first (flat_map (λ (item : Item). condition_faults (leaf_class l.catalog l.graph) item.value) l.columns)
