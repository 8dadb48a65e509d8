use Rattle.std.proofs.Common.{◌≡◌, take}
use Rattle.graph_meaning.specs.Choices.{edges_in}
use Rattle.normal_form.specs.Spending.{counted}
use Rattle.normal_form.proofs.sizes.edges_among.Given as goal

abbrev pub invariant-loop-piece : goal.invariant-loop-piece
invariant-loop-piece l = l.edges ≡ counted (edges_in (take l.piece-index l.pieces))
