use Rattle.shortest_lowering.proofs.PairTuples.{pairs_stand}
use Rattle.shortest_lowering.proofs.candidate_laws.pairs_law.Goals as goal

pub returns : goal.returns
returns c = pairs_stand
