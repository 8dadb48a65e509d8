use Rattle.std.proofs.Common.{◌∙◌, ap, sym}
use Rattle.std.proofs.lemmas.List.Folds.{flat_map-map}
use Rattle.expr_tree.specs.Leaves.{leaves_in}
use Rattle.first_faults.specs.Faults.{first_of}
use Rattle.pattern_check.specs.Variables.{used}
use Rattle.pattern_check.proofs.leaves.in_condition.Goals as goal

pub returns : goal.returns
returns g c =
    c.in_expr.ensures
    ∙ ap (first_of c.args.first) (sym (flat_map-map (g.R.LeafRule.faults c.args.rule.now) (used c.args.around.now) (leaves_in c.args.condition.now.tree)))
