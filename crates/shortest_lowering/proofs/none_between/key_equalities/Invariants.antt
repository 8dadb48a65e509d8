use Rattle.std.proofs.Common.{◌≡◌, ◌++◌, drop}
use Rattle.shortest_lowering.specs.NoShorter.{key_equalities}
use Rattle.shortest_lowering.proofs.none_between.key_equalities.Given as goal

abbrev pub invariant-loop-leaf : goal.invariant-loop-leaf
invariant-loop-leaf l = l.made.items ++ key_equalities l.number (drop l.leaf-index l.key) ≡ key_equalities l.number l.key
