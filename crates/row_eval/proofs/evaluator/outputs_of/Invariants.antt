use Rattle.std.proofs.Common.{take}
use Rattle.row_eval.specs.Scopes.{placed}
use Rattle.row_eval.specs.Answered.{AreOutputsOf}
use Rattle.row_eval.proofs.evaluator.outputs_of.Given as goal

abbrev pub invariant-loop-column : goal.invariant-loop-column
invariant-loop-column l = AreOutputsOf l.catalog (placed l.reach) (take l.column-index l.columns) l.outputs
