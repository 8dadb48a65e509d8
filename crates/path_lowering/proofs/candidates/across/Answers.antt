use Rattle.std.proofs.Common.{◌≡◌}
use Rattle.path_lowering.proofs.Facts.{in_at}
use Rattle.path_lowering.proofs.candidates.across.Goals as goal

pub leaf-requires-clause-column : goal.leaf-requires-clause-column
leaf-requires-clause-column c = c.requires.own.places _ (in_at c.args.own.now.columns.now c.loop-column.column-index 0 c.loop-column-test.true)

pub leaf-requires-in-loop-column-clause-column : goal.leaf-requires-in-loop-column-clause-column
leaf-requires-in-loop-column-clause-column c = c.requires.other.places _ (in_at c.args.own.now.columns.now c.loop-column.column-index 0 c.loop-column-test.true)
