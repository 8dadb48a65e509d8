use Rattle.std.proofs.Common.{◌≡◌, map, take}
use Rattle.expr_tree.specs.declared.tree.Comparison.TheVariants.{Equal}
use Rattle.expr_tree.specs.declared.tree.Expr.TheVariants.{Leaf, Compare}
use Rattle.path_lowering.specs.Emitted.{leaf_in}
use Rattle.path_lowering.proofs.candidates.across.Given as goal

abbrev pub invariant-loop-column : goal.invariant-loop-column
invariant-loop-column l = l.made.items ≡ map (λ column. Compare Equal (Leaf (leaf_in l.catalog 83 l.own.element.now l.own.item column))
    (Leaf (leaf_in l.catalog 65 l.other.element.now l.other.item column)))
    (take l.column-index l.own.columns.now)
