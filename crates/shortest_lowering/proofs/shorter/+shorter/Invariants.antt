use Rattle.std.proofs.Common.{length}
use Rattle.shortest_lowering.proofs.shorter.+shorter.Given as goal

abbrev pub decreases-add_all_shorter : goal.decreases-add_all_shorter
decreases-add_all_shorter l = length l.paths.now
