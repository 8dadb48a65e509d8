use Rattle.std.proofs.Common.{◌≡◌, drop, map}
use Rattle.pattern_check.specs.TypeRules.{typed, leaf_class}
use Rattle.pattern_check.specs.Typing.{seen, with_operands}
use Rattle.pattern_check.proofs.types.+types.Given as goal

abbrev pub invariant-operands-loop-expr : goal.invariant-operands-loop-expr
invariant-operands-loop-expr l =
    with_operands (seen l.all) (map (typed (leaf_class l.catalog l.graph)) (drop l.expr-index l.list)) ≡
    with_operands (seen l.fn.row) (map (typed (leaf_class l.catalog l.graph)) l.list)
