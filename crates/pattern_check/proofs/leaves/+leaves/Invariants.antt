use Rattle.std.proofs.Common.{◌≡◌, map, drop}
use Rattle.std.specs.List.{flat_map}
use Rattle.expr_tree.specs.Leaves.{leaves_in, joined}
use Rattle.first_faults.specs.Faults.{first_of}
use Rattle.pattern_check.specs.Variables.{used}
use Rattle.pattern_check.proofs.leaves.+leaves.Given as goal

abbrev pub invariant-in_exprs-loop-expr : goal.invariant-in_exprs-loop-expr
invariant-in_exprs-loop-expr g l =
    first_of l.found (flat_map (λ leaf. g.R.LeafRule.faults l.rule (used l.around leaf)) (joined (map leaves_in (drop l.expr-index l.list)))) ≡
    first_of l.fn.first (flat_map (λ leaf. g.R.LeafRule.faults l.rule (used l.around leaf)) (joined (map leaves_in l.list)))
