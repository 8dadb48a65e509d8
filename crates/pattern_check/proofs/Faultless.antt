-- What it means that there is no fault (to be shared: the first lemmas stand in view_check too).
use Rattle.std.proofs.Common.{◌≡◌, ℕ, ◌<◌, Bool, true, false, ◌||◌, List, [], ◌∷◌, ◌++◌, length, get_or, map, refl, ap, ◌∙◌, zero, suc, None, subst, arith}
use Rattle.std.specs.List.{flat_map, AllByRecursion}
use Rattle.pgq_base.specs.declared.code.Code.{Code}
use Rattle.pgq_base.specs.declared.refusal.Span.{Span}
use Rattle.first_faults.specs.declared.faults.Fault.{Fault}
use Rattle.first_faults.specs.Faults.{when, first_of, IsFirst}
use Rattle.first_faults.proofs.LeastLemmas.{first_of_is_first}

-- where there is no first fault there is none
pub no_first : (faults : List Fault) → first_of None faults ≡ None → faults ≡ []
no_first faults none = subst (IsFirst faults) none (first_of_is_first faults)

pub left_none : {X : Type 0} (xs ys : List X) → xs ++ ys ≡ [] → xs ≡ []
left_none [] ys h = refl
left_none (x ∷ xs) ys h = cc

pub right_none : {X : Type 0} (xs ys : List X) → xs ++ ys ≡ [] → ys ≡ []
right_none [] ys h = h
right_none (x ∷ xs) ys h = cc

pub each_none : {X Y : Type 0} (f : X → List Y) (xs : List X) → flat_map f xs ≡ [] → AllByRecursion (λ x. f x ≡ []) xs
each_none f [] h = tt
each_none f (x ∷ xs) h = (left_none (f x) (flat_map f xs) h, each_none f xs (right_none (f x) (flat_map f xs) h))

pub not_when : (b : Bool) (code : Code) (span : Span) → when b code span ≡ [] → b ≡ false
not_when true code span h = cc
not_when false code span h = refl

pub or_left : (a b : Bool) → (a || b) ≡ false → a ≡ false
or_left true b h = h
or_left false b h = refl

pub or_right : (a b : Bool) → (a || b) ≡ false → b ≡ false
or_right true b h = cc
or_right false b h = h

-- there is none at an item either
pub none_at : {X Y : Type 0} (f : X → List Y) (xs : List X) (i : ℕ) (x : X) → i < length xs → x ≡ get_or xs i x → flat_map f xs ≡ [] → f x ≡ []
none_at f [] i x within is h = absurd (omega (arith, within))
none_at f (y ∷ xs) zero x within is h = ap f is ∙ left_none (f y) (flat_map f xs) h
none_at f (y ∷ xs) (suc i) x within is h = none_at f xs i x (omega (arith, within)) is (right_none (f y) (flat_map f xs) h)

pub none_given : {X Y Z : Type 0} (h : Z → List Y) (f : X → Z) (xs : List X) (i : ℕ) (x : X) → i < length xs → x ≡ get_or xs i x → flat_map h (map f xs) ≡ [] → h (f x) ≡ []
none_given h f [] i x within is none = absurd (omega (arith, within))
none_given h f (y ∷ xs) zero x within is none = ap (λ z. h (f z)) is ∙ left_none (h (f y)) (flat_map h (map f xs)) none
none_given h f (y ∷ xs) (suc i) x within is none = none_given h f xs i x (omega (arith, within)) is (right_none (h (f y)) (flat_map h (map f xs)) none)
