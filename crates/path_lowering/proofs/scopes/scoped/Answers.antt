use Rattle.std.proofs.Common.{map, rules}
use Rattle.expr_tree.specs.Leaves.{leaves_in}
use Rattle.expr_tree.proofs.Folds.{each_from_all}
use Rattle.path_lowering.specs.Emitted.{lowered_leaf, spot_in}
use Rattle.path_lowering.proofs.PlacingSteps.{if_ok}
use Rattle.path_lowering.proofs.scopes.scoped.Goals as goal

pub returns : goal.returns
returns c =
    let to = lowered_leaf c.args.scene.now.catalog.now c.args.scene.now.graph.now c.args.scene.now.prefix
    (spot_in (map (λ p. (p.place, p.piece.now)) c.args.scope.now) c.args.spots.now) in
    if_ok c.map_leaves.result _ _ (λ e h. h to (each_from_all _ (λ l r answered. search rules) (leaves_in c.args.condition.now))) c.map_leaves.ensures.exact
