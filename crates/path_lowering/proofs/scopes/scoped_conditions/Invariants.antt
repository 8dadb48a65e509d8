use Rattle.std.proofs.Common.{◌≡◌, map, take}
use Rattle.graph_meaning.specs.Choices.{scoped_by}
use Rattle.path_lowering.specs.Emitted.{scoped_condition}
use Rattle.path_lowering.proofs.scopes.scoped_conditions.Given as goal

abbrev pub invariant-loop-condition : goal.invariant-loop-condition
invariant-loop-condition l =
    l.made.items ≡ map (scoped_condition l.scene.catalog.now l.scene.graph.now l.scene.prefix l.spots)
    (scoped_by (map (λ p. (p.place, p.piece.now)) l.scope) (take l.condition-index l.conditions))
