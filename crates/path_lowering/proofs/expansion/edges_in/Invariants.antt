use Rattle.std.proofs.Common.{◌≡◌, ◌+◌, ◌≤◌, drop}
use Rattle.graph_meaning.specs.Choices.{edges_in}
use Rattle.path_lowering.proofs.expansion.edges_in.Given as goal

abbrev pub invariant-loop-piece : goal.invariant-loop-piece
invariant-loop-piece l = (l.edges + edges_in (drop l.piece-index l.pieces) ≡ edges_in l.pieces) × (l.edges ≤ l.piece-index)
