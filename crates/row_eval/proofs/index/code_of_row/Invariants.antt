use Rattle.std.proofs.Common.{◌≡◌, drop, map}
use Rattle.row_eval.specs.Access.{column_value}
use Rattle.row_eval.specs.Served.{code_from, code_of}
use Rattle.row_eval.specs.declared.access.Tied.{Tied}
use Rattle.row_eval.proofs.index.code_of_row.Given as goal

abbrev pub invariant-loop-tie : goal.invariant-loop-tie
invariant-loop-tie l =
    code_from l.hasher (map (λ (t : Tied). column_value l.row.values t.own) (drop l.tie-index l.tied))
    ≡ code_of (map (λ (t : Tied). column_value l.row.values t.own) l.tied)
