use Rattle.std.proofs.Common.{◌≡◌, ◌<◌, true, take, length}
use Rattle.std.specs.List.{list_any}
use Rattle.row_eval.specs.Slots.{Stack, is_kept}
use Rattle.row_eval.specs.Ways.{some_at}
use Rattle.row_eval.proofs.ways.ways_among.Given as goal

abbrev pub invariant-loop-alternative : goal.invariant-loop-alternative
invariant-loop-alternative l =
    (t : Stack) → l.place < length t → list_any (is_kept t) (take l.alternative-index l.alternatives) ≡ true → some_at l.place t l.ways ≡ true
