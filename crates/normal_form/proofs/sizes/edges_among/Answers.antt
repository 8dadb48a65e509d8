use Rattle.std.proofs.Common.{ap, ◌∙◌, ◌+◌, arith}
use Rattle.normal_form.specs.Spending.{counted}
use Rattle.normal_form.proofs.SizeLemmas.{edges_more}
use Rattle.normal_form.proofs.sizes.edges_among.Goals as goal

pub loop-piece-preserved : goal.loop-piece-preserved
loop-piece-preserved c =
    c.sum-edges.ensures
    ∙ ap (λ n. counted (c.loop-piece.edges + n)) c.edges_at.ensures
    ∙ edges_more c.args.pieces.now c.loop-piece.piece-index c.piece-item.result c.loop-piece.edges (omega arith) c.piece-item.is c.loop-piece.invariant
