use Rattle.std.proofs.Common.{◌≡◌, take}
use Rattle.shortest_lowering.proofs.copies.copy_plain.Given as goal

abbrev pub invariant-loop-conjunct : goal.invariant-loop-conjunct
invariant-loop-conjunct l = l.all ≡ take l.conjunct-index l.conjuncts
