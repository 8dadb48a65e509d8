use Rattle.std.specs.Fn.{FnReturnsAt}
use Rattle.expr_tree.proofs.Replacing.{each_answer}
use Rattle.expr_tree.proofs.map.map_leaves.Goals as goal

pub returns-clause-exact : goal.returns-clause-exact
returns-clause-exact g c = each_answer (FnReturnsAt g.F.Fn c.args.f) c.args.expr.now c.map_expr.result c.map_expr.ensures
