use Rattle.std.proofs.Common.{◌≡◌, take}
use Rattle.row_eval.specs.Slots.{lent_rows}
use Rattle.row_eval.specs.Served.{is_candidate, places_from}
use Rattle.row_eval.proofs.places.merged_places.Given as goal

abbrev pub invariant-loop-number : goal.invariant-loop-number
invariant-loop-number l = l.all.items ≡ places_from (is_candidate (take l.number l.keys) (lent_rows l.stack)) 0 (lent_rows l.lent)
