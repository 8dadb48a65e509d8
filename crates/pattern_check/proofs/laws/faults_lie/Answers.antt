use Rattle.pattern_check.proofs.FaultPlaces.{fault_lies}
use Rattle.pattern_check.proofs.laws.faults_lie.Goals as goal

pub returns : goal.returns
returns c = fault_lies
