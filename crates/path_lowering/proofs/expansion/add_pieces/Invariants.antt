use Rattle.std.proofs.Common.{◌≡◌, ◌++◌, map, drop}
use Rattle.path_lowering.proofs.expansion.add_pieces.Given as goal

abbrev pub invariant-loop-piece : goal.invariant-loop-piece
invariant-loop-piece l = map (λ n. n.now) l.all.items ++ drop l.piece-index l.pieces ≡ map (λ n. n.now) l.fn.all.items ++ l.pieces
