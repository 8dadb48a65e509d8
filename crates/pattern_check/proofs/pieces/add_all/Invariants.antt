use Rattle.std.proofs.Common.{◌≡◌, ◌++◌, length}
use Rattle.std.specs.Vec.Iter.{into_iter_items, into_iter_len}
use Rattle.pattern_check.proofs.pieces.add_all.Given as goal

abbrev pub invariant-loop-piece : goal.invariant-loop-piece
invariant-loop-piece l =
    (l.all ++ into_iter_items l.piece-iterator ≡ l.initial.all ++ into_iter_items l.initial.piece-iterator) × (into_iter_len l.piece-iterator ≡ length
    (into_iter_items l.piece-iterator))
