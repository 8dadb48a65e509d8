use Rattle.std.proofs.Common.{◌≡◌, ◌++◌, drop, map}
use Rattle.pattern_check.specs.Mentions.{said}
use Rattle.pattern_check.proofs.repeats.with_all.Given as goal

abbrev pub invariant-loop-m : goal.invariant-loop-m
invariant-loop-m l = l.all ++ map said (drop l.m-index l.operand) ≡ l.fn.all ++ map said l.operand
