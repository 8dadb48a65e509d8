use Rattle.std.proofs.Common.{length}
use Rattle.normal_form.proofs.sizes.+edges_of.Given as goal

abbrev pub decreases-edges_of : goal.decreases-edges_of
decreases-edges_of l = length l.steps.now
