use Rattle.std.proofs.Common.{take}
use Rattle.sql_algebra.specs.Tuples.{all_members}
use Rattle.row_eval.specs.Scopes.{placed}
use Rattle.row_eval.specs.Sorted.{Adds}
use Rattle.row_eval.proofs.sorting.sort_ons.Given as goal

abbrev pub invariant-loop-item : goal.invariant-loop-item
invariant-loop-item l = Adds l.catalog (placed l.reach) l.depth (all_members (take l.item-index l.items)) l.fn.sorted l.sorted
