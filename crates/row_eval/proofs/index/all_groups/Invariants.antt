use Rattle.std.proofs.Common.{take}
use Rattle.row_eval.specs.Slots.{lent_rows}
use Rattle.row_eval.specs.Served.{AreGroupsOf}
use Rattle.row_eval.proofs.index.all_groups.Given as goal

abbrev pub invariant-loop-key : goal.invariant-loop-key
invariant-loop-key l = AreGroupsOf (take l.key-index l.keys) (lent_rows l.lent) l.all.items
