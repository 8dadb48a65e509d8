use Rattle.std.proofs.Common.{◌≡◌, map, drop, is_none}
use Rattle.std.specs.List.{list_all}
use Rattle.expr_tree.specs.Leaves.{leaves_in, joined}
use Rattle.graph_ast.specs.declared.query.PropertyRef.{PropertyRef}
use Rattle.pattern_check.proofs.served.+plain.Given as goal

abbrev pub invariant-expressions_are_plain-loop-value : goal.invariant-expressions_are_plain-loop-value
invariant-expressions_are_plain-loop-value l =
    list_all (λ (leaf : PropertyRef). is_none leaf.test) (joined (map leaves_in (drop l.value-index l.list)))
    ≡ list_all (λ (leaf : PropertyRef). is_none leaf.test) (joined (map leaves_in l.list))
