use Rattle.std.proofs.Common.{◌≡◌, drop}
use Rattle.row_eval.specs.Slots.{lent_rows}
use Rattle.row_eval.specs.Access.{some_agree}
use Rattle.row_eval.proofs.access.keys_match.Given as goal

abbrev pub invariant-loop-key : goal.invariant-loop-key
invariant-loop-key l =
    some_agree (lent_rows l.stack) l.row.values (drop l.key-index l.keys) ≡ some_agree (lent_rows l.stack) l.row.values l.keys
