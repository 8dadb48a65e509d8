use Rattle.std.proofs.Common.{◌≡◌, map, take}
use Rattle.view_check.proofs.names.by_name.Given as goal

abbrev pub invariant-loop-n : goal.invariant-loop-n
invariant-loop-n l = l.index ≡ map (λ n. n.name) (take l.n-index l.list)
