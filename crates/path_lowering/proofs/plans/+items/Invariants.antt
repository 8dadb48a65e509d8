use Rattle.std.proofs.Common.{length}
use Rattle.path_lowering.proofs.plans.+items.Given as goal

abbrev pub decreases-add_items : goal.decreases-add_items
decreases-add_items l = length l.parts.now
