use Rattle.std.proofs.Common.{◌+◌, ◌-◌, ◌++◌, map, flat_map, replicate, ap, ◌∙◌, arith, Bor}
use Rattle.graph_ast.specs.declared.checked.Piece.{Piece}
use Rattle.path_lowering.proofs.UnrolledLemmas.{often_on}
use Rattle.path_lowering.proofs.expansion.add_often.Goals as goal

pub loop-turn-preserved : goal.loop-turn-preserved
loop-turn-preserved c =
    ap (λ l. l ++ flat_map (λ x. x) (replicate (c.args.count - (c.loop-turn.turn + 1)) c.args.pieces.now)) c.in_ok-all.ensures
    ∙ often_on c.args.pieces.now (map (λ (p : Bor Piece). p.now) c.loop-turn.all.items)
    (map (λ (p : Bor Piece). p.now) c.args.all.items ++ flat_map (λ x. x) (replicate c.args.count c.args.pieces.now)) c.args.count c.loop-turn.turn
    (omega arith) c.loop-turn.invariant
