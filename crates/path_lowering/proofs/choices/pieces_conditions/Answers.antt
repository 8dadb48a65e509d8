use Rattle.path_lowering.proofs.Facts.{in_map}
use Rattle.path_lowering.proofs.MemberSteps.{item_in}
use Rattle.path_lowering.proofs.choices.pieces_conditions.Goals as goal

pub piece_conditions-requires-clause-there : goal.piece_conditions-requires-clause-there
piece_conditions-requires-clause-there c =
    c.requires.there _ (in_map (λ p. (p.place, p.piece.now)) c.piece-item.result c.args.pieces.now
    (item_in c.args.pieces.now c.loop-piece.piece-index c.piece-item.result c.piece-item.is c.loop-piece-test.true))
