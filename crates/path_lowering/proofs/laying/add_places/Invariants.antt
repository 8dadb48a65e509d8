use Rattle.std.proofs.Common.{◌≡◌, ◌++◌, map, drop}
use Rattle.path_lowering.proofs.laying.add_places.Given as goal

abbrev pub invariant-loop-i : goal.invariant-loop-i
invariant-loop-i l = record {
  tags : map (λ p. p.tags.now) l.places.items ++ drop l.i l.own ≡ map (λ p. p.tags.now) l.fn.places.items ++ l.own;
  spots : map (λ p. p.spot) l.places.items ++ drop l.i l.spots ≡ map (λ p. p.spot) l.fn.places.items ++ l.spots;
}
