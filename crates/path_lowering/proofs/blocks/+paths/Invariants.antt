use Rattle.std.proofs.Common.{length}
use Rattle.path_lowering.proofs.blocks.+paths.Given as goal

abbrev pub decreases-add_paths : goal.decreases-add_paths
decreases-add_paths l = length l.paths.now
