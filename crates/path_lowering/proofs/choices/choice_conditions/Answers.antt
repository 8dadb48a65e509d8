use Rattle.std.proofs.Common.{◌≡◌, ◌<◌, ◌^◌, IfOk, sym, subst, ap₂}
use Rattle.multisets.specs.Bags.{IsIn}
use Rattle.graph_meaning.specs.Choices.{PlacedPiece, Expansion, expanded, expansion_of}
use Rattle.path_lowering.specs.Emitted.{choice_conditions}
use Rattle.path_lowering.specs.Unrolled.{IsPieceAt}
use Rattle.path_lowering.proofs.LayableLemmas.{operand_is}
use Rattle.path_lowering.proofs.choices.choice_conditions.Goals as goal

pub operand_conditions-requires-clause-room : goal.operand_conditions-requires-clause-room
operand_conditions-requires-clause-room c =
    let is : expanded c.index-as_slice-choice.result c.as_slice-2.result.now ≡ expansion_of c.args.path.now c.args.choice.now =
    ap₂ expanded (operand_is c.args.path.now c.args.choice.now.operand c.index-as_slice-choice.result c.as_slice.result.now c.as_slice.ensures c.index-as_slice-choice.is
    c.requires.there.operand) c.as_slice-2.ensures in
    subst (λ (e : Expansion). e.edges < 2 ^ 63) (sym is) c.requires.there.room

pub operand_conditions-requires-clause-pieces : goal.operand_conditions-requires-clause-pieces
operand_conditions-requires-clause-pieces c =
    let is : expanded c.index-as_slice-choice.result c.as_slice-2.result.now ≡ expansion_of c.args.path.now c.args.choice.now =
    ap₂ expanded (operand_is c.args.path.now c.args.choice.now.operand c.index-as_slice-choice.result c.as_slice.result.now c.as_slice.ensures c.index-as_slice-choice.is
    c.requires.there.operand) c.as_slice-2.ensures in
    subst (λ (e : Expansion). (piece : PlacedPiece) → IsIn piece e.pieces → IsPieceAt c.args.scene.now.catalog.now c.args.scene.now.graph.now c.args.spots.now piece)
    (sym is) c.requires.there.pieces

pub returns : goal.returns
returns c =
    let is : expanded c.index-as_slice-choice.result c.as_slice-2.result.now ≡ expansion_of c.args.path.now c.args.choice.now =
    ap₂ expanded (operand_is c.args.path.now c.args.choice.now.operand c.index-as_slice-choice.result c.as_slice.result.now c.as_slice.ensures c.index-as_slice-choice.is
    c.requires.there.operand) c.as_slice-2.ensures in
    subst (λ (e : Expansion). IfOk c.operand_conditions.result
    (λ made. made.items ≡ choice_conditions c.args.scene.now.catalog.now c.args.scene.now.graph.now c.args.scene.now.prefix e c.args.spots.now)) is
    c.operand_conditions.ensures
