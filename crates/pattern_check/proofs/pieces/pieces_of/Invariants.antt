use Rattle.std.proofs.Common.{◌≡◌, ◌++◌, length}
use Rattle.std.specs.List.{flat_map}
use Rattle.std.specs.Vec.Iter.{into_iter_items, into_iter_len}
use Rattle.pattern_check.specs.Checked.{pieces_of}
use Rattle.pattern_check.proofs.pieces.pieces_of.Given as goal

abbrev pub invariant-loop-step : goal.invariant-loop-step
invariant-loop-step l =
    (l.all ++ flat_map pieces_of (into_iter_items l.step-iterator) ≡ flat_map pieces_of (into_iter_items l.initial.step-iterator)) × (into_iter_len l.step-iterator ≡ length
    (into_iter_items l.step-iterator))
