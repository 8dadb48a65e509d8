use Rattle.std.proofs.Common.{◌≡◌, rules, sym, ◌∙◌}
use Rattle.expr_tree.specs.declared.tree.Expr.TheVariants.{Leaf}
use Rattle.expr_tree.specs.Leaves.{leaves_in}
use Rattle.expr_tree.proofs.Folds.{each_implies}
use Rattle.expr_tree.proofs.LawLemmas.{same_trees}
use Rattle.path_lowering.proofs.PlacingSteps.{if_ok}
use Rattle.shortest_lowering.proofs.copies.copy_value.Goals as goal

-- each place of a leaf has the leaf again, so the tree is the same
pub returns : goal.returns
returns c =
    if_ok c.map_leaves.result _ _
    (λ made r. sym r.replaced ∙ same_trees (λ p. p.1) (λ p. Leaf p.0) r.paired (each_implies _ _ (λ p answered. search rules) (leaves_in r.paired) r.allowed) ∙ r.whole)
    c.map_leaves.ensures.replaced
