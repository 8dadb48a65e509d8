use Rattle.std.proofs.Common.{◌≡◌, map, drop}
use Rattle.path_lowering.specs.Emitted.{spot_in}
use Rattle.path_lowering.proofs.scopes.spot_in.Given as goal

abbrev pub invariant-loop-placed : goal.invariant-loop-placed
invariant-loop-placed l =
    spot_in (map (λ p. (p.place, p.piece.now)) (drop l.placed-index l.scope)) l.spots l.name ≡ spot_in (map (λ p. (p.place, p.piece.now)) l.scope) l.spots l.name
