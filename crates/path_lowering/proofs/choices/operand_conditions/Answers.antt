use Rattle.std.proofs.Common.{◌≡◌, ◌<◌, ◌^◌, map, flat_map, ap, ap₂, sym, subst, ◌∙◌, arith, Bor, ℕ}
use Rattle.multisets.specs.Bags.{IsIn}
use Rattle.graph_ast.specs.declared.checked.Piece.{Piece}
use Rattle.graph_meaning.specs.Choices.{PlacedPiece, iterations, iterated, placed, scoped_by}
use Rattle.path_lowering.specs.declared.expansion.PieceAt.{PieceAt}
use Rattle.path_lowering.specs.Emitted.{piece_conditions, scoped_condition}
use Rattle.path_lowering.specs.Unrolled.{edges_of, scoped_in}
use Rattle.path_lowering.proofs.Lists.{two_joined}
use Rattle.path_lowering.proofs.UnrolledLemmas.{edges_are, scoped_are}
use Rattle.path_lowering.proofs.choices.operand_conditions.Goals as goal

pub iterated_conditions-requires-clause-room : goal.iterated_conditions-requires-clause-room
iterated_conditions-requires-clause-room c =
    subst (λ s. edges_of s c.args.counts.now < 2 ^ 63) (sym c.as_slice-steps.ensures)
    (let a = edges_are c.args.operand.now.steps c.args.counts.now in let b = c.requires.room in omega (arith, a, b))

pub pieces_conditions-requires-clause-there : goal.pieces_conditions-requires-clause-there
pieces_conditions-requires-clause-there c =
    let is = ap (map (λ (p : PieceAt). (p.place, p.piece.now))) c.as_slice-pieces.ensures.value ∙ c.in_ok-all.ensures
    ∙ ap (placed 0) (ap (map (λ (p : Bor Piece). p.now)) c.as_slice.ensures.value ∙ c.in_ok-own.ensures) in
    λ piece h. c.requires.pieces piece (subst (λ (l : Rattle.std.proofs.Common.List PlacedPiece). IsIn piece l) is h)

pub returns : goal.returns
returns c =
    let pieces = flat_map (λ part. part.pieces) (iterations c.args.operand.now.steps c.args.counts.now) in
    let is = ap (map (λ (p : PieceAt). (p.place, p.piece.now))) c.as_slice-pieces.ensures.value ∙ c.in_ok-all.ensures
    ∙ ap (placed 0) (ap (map (λ (p : Bor Piece). p.now)) c.as_slice.ensures.value ∙ c.in_ok-own.ensures) in
    let f = scoped_condition c.args.scene.now.catalog.now c.args.scene.now.graph.now c.args.scene.now.prefix c.args.spots.now in
    two_joined f
    (iterated 0 (iterations c.args.operand.now.steps c.args.counts.now)) (scoped_by (placed 0 pieces) c.args.operand.now.conditions)
    c.in_ok-made.made.items c.in_ok-iterated.iterated.items c.in_ok-whole.whole.items c.append.new.self.items c.append-2.new.self.items
    (flat_map (piece_conditions c.args.scene.now.catalog.now c.args.scene.now.graph.now c.args.scene.now.prefix c.args.spots.now) (placed 0 pieces))
    (c.in_ok-made.ensures ∙ ap (flat_map (piece_conditions c.args.scene.now.catalog.now c.args.scene.now.graph.now c.args.scene.now.prefix c.args.spots.now)) is)
    (c.in_ok-iterated.ensures ∙ ap (λ s. map f (scoped_in 0 s c.args.counts.now)) c.as_slice-steps.ensures ∙ ap (map f) (scoped_are 0 c.args.operand.now.steps c.args.counts.now))
    (c.in_ok-whole.ensures ∙ ap₂ (λ a b. map f (scoped_by a b)) is c.as_slice-conditions.ensures)
    c.in_ok-append.ensures.items c.in_ok-append-2.ensures.items
