use Rattle.std.proofs.Common.{length}
use Rattle.path_lowering.proofs.scopes.+steps.Given as goal

abbrev pub decreases-add_conditions : goal.decreases-add_conditions
decreases-add_conditions l = length l.steps.now
