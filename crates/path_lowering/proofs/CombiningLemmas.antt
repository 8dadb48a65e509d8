-- One OR of all alternatives says what some alternative does.
use Rattle.std.proofs.Common.{List, [], ◌∷◌, inl, inr}
use Rattle.path_lowering.specs.Emitted.{SqlCondition}
use Rattle.path_lowering.specs.Blocks.{AreSplit}
use Rattle.path_lowering.specs.Lowered.{IsCombining, in_one}
use Rattle.path_lowering.proofs.AlternativeLemmas.{one_says, several_say}

nothing_shared : (alternatives : List (List SqlCondition)) → AreSplit [] alternatives alternatives
nothing_shared [] = tt
nothing_shared (a ∷ more) = ((λ c. ((λ h. inr h), (λ h. elim h [ inl k ↦ absurd k | inr k ↦ k ]))), nothing_shared more)

pub in_one_combines : IsCombining in_one
in_one_combines [] = several_say [] [] [] (nothing_shared [])
in_one_combines (a ∷ []) = one_says a
in_one_combines (a ∷ b ∷ more) = several_say [] (a ∷ b ∷ more) (a ∷ b ∷ more) (nothing_shared (a ∷ b ∷ more))
