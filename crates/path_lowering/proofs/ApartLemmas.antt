-- What all alternatives share and the rest of each are the alternatives.
use Rattle.std.proofs.Common.{◌≡◌, ◌↔◌, ◌⊎◌, Bool, true, false, not, ◌||◌, ◌≤◌, List, [], ◌∷◌, map, filter, length, arith, ap₂, refl, sym, ap, subst, ◌∙◌, inl, inr}
use Rattle.std.specs.List.{list_any}
use Rattle.multisets.specs.Bags.{IsIn}
use Rattle.path_lowering.specs.Emitted.{SqlCondition}
use Rattle.path_lowering.specs.Blocks.{SaysAny, AreSplit, shared_outside}
use Rattle.path_lowering.specs.Lowered.{IsCombining}
use Rattle.path_lowering.specs.Sameness.{same_condition}
use Rattle.path_lowering.specs.Apart.{is_among, is_in_all, without, split, apart}
use Rattle.path_lowering.proofs.AlternativeLemmas.{one_says, several_say}
use Rattle.path_lowering.proofs.SamenessLemmas.{same_is, same_self}
use Rattle.path_lowering.proofs.PlacingLemmas.{kept_in, in_kept, each_of}

or_right : (b : Bool) → (b || true) ≡ true
or_right true = refl
or_right false = refl

-- a condition that is found among some is one of them
among_in : (conditions : List SqlCondition) (c : SqlCondition) → is_among conditions c ≡ true → IsIn c conditions
among_in [] c h = cc
among_in (x ∷ xs) c h = go (same_condition c x) refl h (among_in xs c)
  where
    go : (b : Bool) → same_condition c x ≡ b → (b || list_any (same_condition c) xs) ≡ true → (is_among xs c ≡ true → IsIn c xs) → IsIn c (x ∷ xs)
    go true e h more = inl (sym (same_is c x e))
    go false e h more = inr (more h)

in_among : (conditions : List SqlCondition) (c : SqlCondition) → IsIn c conditions → is_among conditions c ≡ true
in_among [] c h = absurd h
in_among (x ∷ xs) c (inl e) = ap (λ b. b || list_any (same_condition c) xs) (subst (λ y. same_condition c y ≡ true) (sym e) (same_self c))
in_among (x ∷ xs) c (inr h) = ap (λ b. same_condition c x || b) (in_among xs c h) ∙ or_right (same_condition c x)

-- what a test keeps and what it leaves are the whole
kept_or_left : (p : SqlCondition → Bool) (xs : List SqlCondition) (c : SqlCondition) → IsIn c xs ↔ (IsIn c (filter p xs) ⊎ IsIn c (filter (λ x. not (p x)) xs))
kept_or_left p xs c = (
  (λ h. go (p c) refl h),
  (λ h. elim h [ inl k ↦ (in_kept p xs c k).0 | inr k ↦ (in_kept (λ x. not (p x)) xs c k).0 ]),
)
  where
    go : (b : Bool) → p c ≡ b → IsIn c xs → IsIn c (filter p xs) ⊎ IsIn c (filter (λ x. not (p x)) xs)
    go true e h = inl (kept_in p xs c h e)
    go false e h = inr (kept_in (λ x. not (p x)) xs c h (ap not e))

-- an alternative that has all that is common has this and the rest
common_or_rest : (common alternative : List SqlCondition) → ((c : SqlCondition) → IsIn c common → IsIn c alternative) → (c : SqlCondition)
    → IsIn c alternative ↔ (IsIn c common ⊎ IsIn c (without common alternative))
common_or_rest common alternative has c = (
  (λ h. go (is_among common c) refl h),
  (λ h. elim h [ inl k ↦ has c k | inr k ↦ (in_kept (λ x. not (is_among common x)) alternative c k).0 ]),
)
  where
    go : (b : Bool) → is_among common c ≡ b → IsIn c alternative → IsIn c common ⊎ IsIn c (without common alternative)
    go true e h = inl (among_in common c e)
    go false e h = inr (kept_in (λ x. not (is_among common x)) alternative c h (ap not e))

all_split : (common : List SqlCondition) (others : List (List SqlCondition)) → ((other : List SqlCondition) → IsIn other others → (c : SqlCondition) → IsIn c common → IsIn c other)
    → AreSplit common others (map (without common) others)
all_split common [] has = tt
all_split common (other ∷ others) has = (common_or_rest common other (has other (inl refl)), all_split common others (λ x k. has x (inr k)))

common_there : (first : List SqlCondition) (others : List (List SqlCondition)) (other : List SqlCondition) → IsIn other others → (c : SqlCondition)
    → IsIn c (filter (is_in_all others) first) → IsIn c other
common_there first others other there c h =
    among_in other c (each_of (λ alternative. is_among alternative c) others (in_kept (is_in_all others) first c h).1 other there)

split_says : (first : List SqlCondition) (others : List (List SqlCondition)) → SaysAny (first ∷ others) (split first others)
split_says first others =
    several_say (filter (is_in_all others) first) (first ∷ others)
    (filter (λ condition. not (is_in_all others condition)) first ∷ map (without (filter (is_in_all others) first)) others)
    (kept_or_left (is_in_all others) first, all_split (filter (is_in_all others) first) others (common_there first others))

pub apart_combines : IsCombining apart
apart_combines [] = several_say [] [] [] tt
apart_combines (a ∷ []) = one_says a
apart_combines (a ∷ b ∷ more) = split_says a (b ∷ more)

pub apart_alone : (first : List SqlCondition) (others : List (List SqlCondition)) → length others ≡ 0 → apart (first ∷ others) ≡ first
apart_alone first [] h = refl
apart_alone first (other ∷ others) h = absurd (omega (arith, h))

pub apart_several : (first : List SqlCondition) (others : List (List SqlCondition)) → 1 ≤ length others → split first others ≡ apart (first ∷ others)
apart_several first [] h = absurd (omega (arith, h))
apart_several first (other ∷ others) h = refl

-- what is split off step by step is split
pub split_is : (first common rest shared : List SqlCondition) (others seen rests : List (List SqlCondition)) → seen ≡ others → common ≡ filter (is_in_all seen) first
    → rest ≡ filter (λ condition. not (is_in_all seen condition)) first → shared ≡ common → rests ≡ rest ∷ map (without shared) others → shared_outside common rests
    ≡ split first others
split_is first common rest shared others seen rests e c r s all =
    let own : common ≡ filter (is_in_all others) first = c ∙ ap (λ o. filter (is_in_all o) first) e in
    ap₂ shared_outside own (all ∙ ap₂ (λ x y. x ∷ map (without y) others) (r ∙ ap (λ o. filter (λ condition. not (is_in_all o condition)) first) e) (s ∙ own))
