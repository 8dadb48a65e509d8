use Rattle.std.proofs.Common.{◌≡◌}
use Rattle.graph_meaning.specs.Lists.{numbers_below}
use Rattle.shortest_lowering.proofs.candidate.numbers_below.Given as goal

abbrev pub invariant-loop-i : goal.invariant-loop-i
invariant-loop-i l = l.made.items ≡ numbers_below l.i
