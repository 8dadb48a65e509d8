use Rattle.std.proofs.Common.{◌≡◌, ◌&&◌, take}
use Rattle.pgq_base.specs.Instances.{RowValues}
use Rattle.row_eval.specs.Slots.{Stack}
use Rattle.row_eval.specs.Access.{ties_agree, some_agree}
use Rattle.row_eval.proofs.ties.joined_keys.Given as goal

abbrev pub invariant-loop-way : goal.invariant-loop-way
invariant-loop-way l = (s : Stack) (row : RowValues) → some_agree s row l.keys ≡ (ties_agree s row l.tied && some_agree s row (take l.way-index l.ways))
