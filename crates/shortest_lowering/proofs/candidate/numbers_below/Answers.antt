use Rattle.shortest_lowering.proofs.StandingLemmas.{number_next}
use Rattle.shortest_lowering.proofs.candidate.numbers_below.Goals as goal

pub loop-i-preserved : goal.loop-i-preserved
loop-i-preserved c = number_next c.loop-i.made.items c.push.new.self.items c.loop-i.i c.loop-i.invariant c.in_ok-push.ensures.items
