use Rattle.std.proofs.Common.{ap₂, ◌∙◌, arith}
use Rattle.expr_tree.specs.declared.tree.Expr.TheVariants.{Leaf, Compare}
use Rattle.path_lowering.proofs.Facts.{in_at}
use Rattle.path_lowering.proofs.Steps.{compared_more}
use Rattle.path_lowering.proofs.columns.compared.Goals as goal

pub leaf-requires-clause-column : goal.leaf-requires-clause-column
leaf-requires-clause-column c = c.requires.left.places _ (in_at c.args.left.now.columns.now c.loop-i.i 0 c.loop-i-test.true)

pub leaf-requires-in-loop-i-clause-column : goal.leaf-requires-in-loop-i-clause-column
leaf-requires-in-loop-i-clause-column c =
    c.requires.right.places _ (in_at c.args.right.now.columns.now c.loop-i.i 0 (omega (arith, c.loop-i-test.true, c.requires.many)))

pub loop-i-preserved : goal.loop-i-preserved
loop-i-preserved c =
    compared_more c.args.catalog.now c.args.prefix c.args.op c.args.left.now.element.now c.args.left.now.item c.args.right.now.element.now c.args.right.now.item
    c.args.left.now.columns.now c.args.right.now.columns.now c.loop-i.i c.loop-i-test.true (omega (arith, c.loop-i-test.true, c.requires.many))
    c.loop-i.made.items c.push.new.self.items c.in_ok-comparison.field-0 c.loop-i.invariant
    (c.in_ok-comparison.ensures ∙ ap₂ (λ a b. Compare c.args.op (Leaf a) (Leaf b)) c.in_ok-a.ensures c.in_ok-b.ensures)
    c.in_ok-push.ensures.items
