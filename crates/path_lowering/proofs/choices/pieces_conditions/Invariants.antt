use Rattle.std.proofs.Common.{◌≡◌, map, flat_map, take}
use Rattle.path_lowering.specs.Emitted.{piece_conditions}
use Rattle.path_lowering.proofs.choices.pieces_conditions.Given as goal

abbrev pub invariant-loop-piece : goal.invariant-loop-piece
invariant-loop-piece l = l.made.items ≡ flat_map (piece_conditions l.scene.catalog.now l.scene.graph.now l.scene.prefix l.spots)
    (map (λ p. (p.place, p.piece.now)) (take l.piece-index l.pieces))
