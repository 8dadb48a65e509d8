use Rattle.std.proofs.Common.{◌≡◌, ◌++◌, map}
use Rattle.sql_algebra.specs.declared.tree.Conjunct.TheVariants.{Plain}
use Rattle.shortest_lowering.proofs.candidate.add_plain.Given as goal

abbrev pub invariant-loop-condition : goal.invariant-loop-condition
invariant-loop-condition l = l.all ≡ l.fn.conjuncts ++ map Plain l.yielded
