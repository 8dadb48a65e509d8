use Rattle.std.proofs.Common.{length}
use Rattle.normal_form.proofs.sizes.+nodes_inside.Given as goal

abbrev pub decreases-nodes_inside : goal.decreases-nodes_inside
decreases-nodes_inside l = length l.steps.now
