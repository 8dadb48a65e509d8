use Rattle.std.proofs.Common.{◌≡◌, ◌++◌, ◌-◌, map, flat_map, replicate}
use Rattle.path_lowering.proofs.expansion.add_often.Given as goal

abbrev pub invariant-loop-turn : goal.invariant-loop-turn
invariant-loop-turn l = map (λ n. n.now) l.all.items ++ flat_map (λ x. x) (replicate (l.count - l.turn) l.pieces) ≡ map (λ n. n.now) l.fn.all.items ++ flat_map (λ x. x)
    (replicate l.count l.pieces)
