use Rattle.std.proofs.Common.{◌≡◌, drop, map}
use Rattle.row_eval.specs.Slots.{lent_rows, slot_value}
use Rattle.row_eval.specs.Served.{code_from, code_of}
use Rattle.row_eval.specs.declared.access.Tied.{Tied}
use Rattle.row_eval.proofs.index.code_of_stack.Given as goal

abbrev pub invariant-loop-tie : goal.invariant-loop-tie
invariant-loop-tie l =
    code_from l.hasher (map (λ (t : Tied). slot_value (lent_rows l.stack) t.other) (drop l.tie-index l.tied))
    ≡ code_of (map (λ (t : Tied). slot_value (lent_rows l.stack) t.other) l.tied)
