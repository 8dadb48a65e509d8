use Rattle.std.proofs.Common.{◌≡◌, drop}
use Rattle.std.specs.List.{list_all}
use Rattle.row_eval.specs.Access.{column_value, agree}
use Rattle.row_eval.specs.declared.access.Pair.{Pair}
use Rattle.row_eval.proofs.access.pairs_match.Given as goal

abbrev pub invariant-loop-pair : goal.invariant-loop-pair
invariant-loop-pair l =
    list_all (λ (t : Pair). agree (column_value l.row.values t.left) (column_value l.row.values t.right)) (drop l.pair-index l.pairs)
    ≡ list_all (λ (t : Pair). agree (column_value l.row.values t.left) (column_value l.row.values t.right)) l.pairs
