use Rattle.std.proofs.Common.{◌≡◌, IfOk, subst, sym}
use Rattle.path_lowering.proofs.LayableLemmas.{between_is}
use Rattle.path_lowering.proofs.choices.edge_at.Goals as goal

pub edge_conditions-requires-clause-there : goal.edge_conditions-requires-clause-there
edge_conditions-requires-clause-there c = c.requires.between.readable.there

pub edge_conditions-requires-clause-right : goal.edge_conditions-requires-clause-right
edge_conditions-requires-clause-right c = c.requires.between.readable.rightward

pub edge_conditions-requires-clause-left : goal.edge_conditions-requires-clause-left
edge_conditions-requires-clause-left c = c.requires.between.readable.leftward

pub edge_conditions-requires-clause-one_way : goal.edge_conditions-requires-clause-one_way
edge_conditions-requires-clause-one_way c = c.requires.between.readable.one_way

pub returns : goal.returns
returns c =
    subst (λ x. IfOk c.edge_conditions.result (λ made. made.items ≡ x))
    (sym (between_is c.args.scene.now.catalog.now c.args.scene.now.graph.now c.args.scene.now.prefix c.args.spots.now c.args.place c.args.direction c.requires.between))
    c.edge_conditions.ensures
