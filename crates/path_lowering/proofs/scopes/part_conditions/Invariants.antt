use Rattle.std.proofs.Common.{◌≡◌, ◌++◌, ◌+◌, ◌*◌, ◌-◌, map, replicate}
use Rattle.graph_meaning.specs.Choices.{iterated, edges_in}
use Rattle.path_lowering.specs.Emitted.{scoped_condition}
use Rattle.path_lowering.proofs.scopes.part_conditions.Given as goal

abbrev pub invariant-loop-turn : goal.invariant-loop-turn
invariant-loop-turn l = record {
  before : l.before ≡ l.edges + l.turn * edges_in l.pieces;
  due : l.made.items ++ map (scoped_condition l.scene.catalog.now l.scene.graph.now l.scene.prefix l.spots)
      (iterated l.before (replicate (l.count - l.turn) (record { pieces = l.pieces; conditions = l.conditions })))
      ≡ map (scoped_condition l.scene.catalog.now l.scene.graph.now l.scene.prefix l.spots)
      (iterated l.edges (replicate l.count (record { pieces = l.pieces; conditions = l.conditions })));
}
