-- Induction over the factors of patterns, and what is given for each.
use Rattle.std.proofs.Common.{◌≡◌, List, [], ◌∷◌, ◌++◌, map, refl, sym, ap, ap₂, subst, ◌∙◌, Option}
use Rattle.std.specs.List.{AllByRecursion}
use Rattle.graph_ast.specs.declared.query.Filler.{Filler}
use Rattle.graph_ast.specs.declared.query.Direction.{Direction}
use Rattle.graph_ast.specs.declared.query.Quantifier.{Quantifier}
use Rattle.graph_ast.specs.declared.query.Union.{Union, out-Union}
use Rattle.graph_ast.specs.declared.query.PartTree.{PartTree, out-PartTree}
use Rattle.graph_ast.specs.declared.query.Sequence.{Sequence, out-Sequence}
use Rattle.graph_ast.specs.declared.query.Factor.{Factor}
use Rattle.graph_ast.specs.declared.query.Factor.TheVariants as v
use Rattle.graph_ast.specs.declared.query.Factor.TheOpen.{Factor-F, PartTree-F, Sequence-F, Union-F}
use Rattle.graph_ast.specs.declared.query.Factor.TheViews.{roll-Factor, out-roll-PartTree, out-roll-Sequence, out-roll-Union}
use Rattle.graph_ast.specs.declared.query.Factor.TheFolds.{map-Factor, fold-roll-Factor, fold_out-Sequence, fold_out-Union, ind-Factor}
use Rattle.graph_ast.specs.Patterns.{Giving, Part, Body, factor_step, part_step, sequence_step, body_step, given_by, sequence_given, part_given, body_given}
use Rattle.pattern_check.proofs.Opened.{body_inside}

abbrev factors_of : Sequence → List Factor
factors_of sequence = (out-Sequence sequence).factors

-- the factors of each sequence
abbrev pub rows_in : Union → List (List Factor)
rows_in union = map factors_of (out-Union union).operands

abbrev pub rows_of : PartTree → List (List Factor)
rows_of part = rows_in (out-PartTree part).body

-- what holds of two lists holds of both together
pub together : {X : Type 0} (P : X → Type 0) (xs ys : List X) → AllByRecursion P xs → AllByRecursion P ys → AllByRecursion P (xs ++ ys)
together P [] ys a b = b
together P (x ∷ xs) ys a b = (a.0, together P xs ys a.1 b)

-- ---- what is given

module _ {A : Type 0} (giving : Giving A) where
  pub given_vertex : (filler : Filler) → given_by giving (v.Vertex filler) ≡ giving.vertex filler
  given_vertex filler =
      ap (given_by giving) (sym (v.rolls-Vertex filler))
      ∙ fold-roll-Factor A (Part A) (List A) (Body A) (factor_step giving) part_step sequence_step body_step (Factor-F.Vertex filler)

  pub given_edge : (direction : Direction) (filler : Filler) (quantifier : Option Quantifier) →
      given_by giving (v.Edge direction filler quantifier) ≡ giving.edge direction filler quantifier
  given_edge direction filler quantifier =
      ap (given_by giving) (sym (v.rolls-Edge direction filler quantifier))
      ∙ fold-roll-Factor A (Part A) (List A) (Body A) (factor_step giving) part_step sequence_step body_step (Factor-F.Edge direction filler quantifier)

  pub given_part : (part : PartTree) (quantifier : Option Quantifier) → given_by giving (v.Part part quantifier) ≡ giving.part (part_given giving part) quantifier
  given_part part quantifier =
      ap (given_by giving) (sym (v.rolls-Part part quantifier))
      ∙ fold-roll-Factor A (Part A) (List A) (Body A) (factor_step giving) part_step sequence_step body_step (Factor-F.Part part quantifier)

  sequence_is : (sequence : Sequence) → sequence_given giving sequence ≡ map (given_by giving) (factors_of sequence)
  sequence_is sequence = fold_out-Sequence A (Part A) (List A) (Body A) (factor_step giving) part_step sequence_step body_step sequence

  rows_are : (sequences : List Sequence) → map (sequence_given giving) sequences ≡ map (map (given_by giving)) (map factors_of sequences)
  rows_are [] = refl
  rows_are (sequence ∷ sequences) = ap₂ (λ x xs. x ∷ xs) (sequence_is sequence) (rows_are sequences)

  pub operands_given : (union : Union) → (body_given giving union).operands ≡ map (map (given_by giving)) (rows_in union)
  operands_given union =
      ap (λ (b : Body A). b.operands) (fold_out-Union A (Part A) (List A) (Body A) (factor_step giving) part_step sequence_step body_step union)
      ∙ rows_are (out-Union union).operands

  pub part_operands : (part : PartTree) → (part_given giving part).body.operands ≡ map (map (given_by giving)) (rows_of part)
  part_operands part = ap (λ (b : Body A). b.operands) (sym (body_inside giving part)) ∙ operands_given (out-PartTree part).body

-- ---- what holds of each factor

module _ (P : Factor → Type 0) where
  abbrev pub Each : List (List Factor) → Type 0
  Each = AllByRecursion (AllByRecursion P)

  abbrev InSequence : Sequence → Type 0
  InSequence sequence = AllByRecursion P (factors_of sequence)

  abbrev InUnion : Union → Type 0
  InUnion union = Each (rows_in union)

  abbrev InPart : PartTree → Type 0
  InPart part = Each (rows_of part)

  held : (ys : List ((factor : Factor) × P factor)) → AllByRecursion P (map (λ y. y.0) ys)
  held [] = tt
  held (y ∷ ys) = (y.1, held ys)

  held_rows : (ys : List ((sequence : Sequence) × InSequence sequence)) → Each (map factors_of (map (λ y. y.0) ys))
  held_rows [] = tt
  held_rows (y ∷ ys) = (y.1, held_rows ys)

  abbrev Held1 : Type 0
  Held1 = (factor : Factor) × P factor

  abbrev Held2 : Type 0
  Held2 = (part : PartTree) × InPart part

  abbrev Held3 : Type 0
  Held3 = (sequence : Sequence) × InSequence sequence

  abbrev Held4 : Type 0
  Held4 = (union : Union) × InUnion union

  module _
      (vertex : (filler : Filler) → P (v.Vertex filler))
      (edge : (direction : Direction) (filler : Filler) (quantifier : Option Quantifier) → P (v.Edge direction filler quantifier))
      (part : (part : PartTree) (quantifier : Option Quantifier) → Each (rows_of part) → P (v.Part part quantifier))
    where
      abbrev Layer : Factor-F Factor PartTree Sequence Union → Type 0
      Layer x = P (roll-Factor x)

      layer : (y : Factor-F Held1 Held2 Held3 Held4) →
          Layer (map-Factor Held1 Held2 Held3 Held4 Factor PartTree Sequence Union (λ h. h.0) (λ h. h.0) (λ h. h.0) (λ h. h.0) y)
      layer (Factor-F.Vertex filler) = subst P (sym (v.rolls-Vertex filler)) (vertex filler)
      layer (Factor-F.Edge direction filler quantifier) = subst P (sym (v.rolls-Edge direction filler quantifier)) (edge direction filler quantifier)
      layer (Factor-F.Part inside quantifier) = subst P (sym (v.rolls-Part inside.0 quantifier)) (part inside.0 quantifier inside.1)

      pub each_factor : (factor : Factor) → P factor
      each_factor = ind-Factor P InPart InSequence InUnion
          (λ x y is. subst Layer is (layer y))
          (λ x y is. subst (λ (z : PartTree-F Factor PartTree Sequence Union). InUnion z.body) (is ∙ sym (out-roll-PartTree x)) y.body.1)
          (λ x y is. subst (λ (z : Sequence-F Factor PartTree Sequence Union). AllByRecursion P z.factors) (is ∙ sym (out-roll-Sequence x)) (held y.factors))
          (λ x y is. subst (λ (z : Union-F Factor PartTree Sequence Union). Each (map factors_of z.operands)) (is ∙ sym (out-roll-Union x)) (held_rows y.operands))

      pub each_row : (factors : List Factor) → AllByRecursion P factors
      each_row [] = tt
      each_row (factor ∷ factors) = (each_factor factor, each_row factors)

      pub each_union : (rows : List (List Factor)) → Each rows
      each_union [] = tt
      each_union (row ∷ rows) = (each_row row, each_union rows)
