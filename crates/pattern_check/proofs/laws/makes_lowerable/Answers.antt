use Rattle.pattern_check.proofs.LowerableQueries.{makes_lowerable}
use Rattle.pattern_check.proofs.laws.makes_lowerable.Goals as goal

pub returns : goal.returns
returns c = makes_lowerable
