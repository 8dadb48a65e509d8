use Rattle.std.proofs.Common.{take}
use Rattle.row_eval.specs.Scopes.{placed}
use Rattle.row_eval.specs.Sorted.{Adds}
use Rattle.row_eval.proofs.sorting.sort_list.Given as goal

abbrev pub invariant-loop-condition : goal.invariant-loop-condition
invariant-loop-condition l = Adds l.catalog (placed l.reach) l.depth (take l.condition-index l.conditions) l.fn.sorted l.sorted
