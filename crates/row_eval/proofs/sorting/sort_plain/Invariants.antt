use Rattle.std.proofs.Common.{take}
use Rattle.std.specs.Prelude.{flat_map}
use Rattle.sql_algebra.specs.declared.tree.Conjunct.{out-Conjunct}
use Rattle.row_eval.specs.Plans.{plain_at}
use Rattle.row_eval.specs.Scopes.{placed}
use Rattle.row_eval.specs.Sorted.{Adds}
use Rattle.row_eval.proofs.sorting.sort_plain.Given as goal

abbrev pub invariant-loop-conjunct : goal.invariant-loop-conjunct
invariant-loop-conjunct l = Adds l.catalog (placed l.reach) l.depth
    (flat_map (λ conjunct. plain_at (out-Conjunct conjunct)) (take l.conjunct-index l.conjuncts)) l.fn.sorted l.sorted
