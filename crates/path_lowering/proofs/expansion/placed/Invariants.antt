use Rattle.std.proofs.Common.{◌≡◌, ◌++◌, ◌+◌, map, drop}
use Rattle.graph_meaning.specs.Choices.{placed, edges_in}
use Rattle.path_lowering.proofs.expansion.placed.Given as goal

abbrev pub invariant-loop-piece : goal.invariant-loop-piece
invariant-loop-piece l = (map (λ p. (p.place, p.piece.now)) l.all.items ++ placed l.edges (map (λ n. n.now) (drop l.piece-index l.pieces)) ≡ placed l.fn.edges
    (map (λ n. n.now) l.pieces)) × (l.edges + edges_in (map (λ n. n.now) (drop l.piece-index l.pieces)) ≡ l.fn.edges + edges_in (map (λ n. n.now) l.pieces))
