use Rattle.std.proofs.Common.{◌≡◌}
use Rattle.path_lowering.proofs.Facts.{in_at}
use Rattle.path_lowering.proofs.candidates.leaves.Goals as goal

pub leaf-requires-clause-column : goal.leaf-requires-clause-column
leaf-requires-clause-column c = c.requires.side.places _ (in_at c.args.side.now.columns.now c.loop-column.column-index 0 c.loop-column-test.true)
