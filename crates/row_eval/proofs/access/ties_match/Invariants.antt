use Rattle.std.proofs.Common.{◌≡◌, drop}
use Rattle.std.specs.List.{list_all}
use Rattle.row_eval.specs.Slots.{lent_rows, slot_value}
use Rattle.row_eval.specs.Access.{column_value, agree}
use Rattle.row_eval.specs.declared.access.Tied.{Tied}
use Rattle.row_eval.proofs.access.ties_match.Given as goal

abbrev pub invariant-loop-tie : goal.invariant-loop-tie
invariant-loop-tie l =
    list_all (λ (t : Tied). agree (column_value l.row.values t.own) (slot_value (lent_rows l.stack) t.other)) (drop l.tie-index l.tied)
    ≡ list_all (λ (t : Tied). agree (column_value l.row.values t.own) (slot_value (lent_rows l.stack) t.other)) l.tied
