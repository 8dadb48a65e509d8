use Rattle.std.proofs.Common.{◌≡◌, length, take}
use Rattle.pgq_base.specs.Instances.{RowValues}
use Rattle.row_eval.specs.Slots.{Stack}
use Rattle.row_eval.specs.Ties.{ties_hold, equalities_hold}
use Rattle.row_eval.proofs.ties.equalities_of.Given as goal

abbrev pub invariant-loop-test : goal.invariant-loop-test
invariant-loop-test l = (s : Stack) (row : RowValues) → length s ≡ l.place → equalities_hold l.made s row ≡ ties_hold l.place s row (take l.test-index l.tests)
