-- How the faults at what a pattern gives are looked for, one item after another.
use Rattle.std.proofs.Common.{◌≡◌, ℕ, ◌+◌, ◌<◌, Bool, ◌||◌, ap, sym, ◌∙◌, refl, List, [], ◌∷◌, ◌++◌, length, get_or, drop, map, Option}
use Rattle.std.specs.List.{flat_map, list_any}
use Rattle.std.proofs.Math.Bool.{or_assoc}
use Rattle.std.proofs.lemmas.List.{drop_more}
use Rattle.std.proofs.lemmas.Grind.{flat_map-append}
use Rattle.first_faults.specs.declared.faults.Fault.{Fault}
use Rattle.first_faults.specs.Faults.{first_of}
use Rattle.first_faults.proofs.Steps.{first_of_append}

-- the faults at what stands first, and then those at the rest
pub apart : {Y : Type 0} (w : Y → List Fault) (first : Option Fault) (xs ys : List Y) →
    first_of first (flat_map w (xs ++ ys)) ≡ first_of (first_of first (flat_map w xs)) (flat_map w ys)
apart w first xs ys = ap (first_of first) (flat_map-append w xs ys) ∙ first_of_append first (flat_map w xs) (flat_map w ys)

pub items_on : {X Y : Type 0} (w : Y → List Fault) (h : X → List Y) (first : Option Fault) (xs : List X) (i : ℕ) (x : X) → i < length xs → x ≡ get_or xs i x →
    first_of (first_of first (flat_map w (h x))) (flat_map w (flat_map h (drop (i + 1) xs))) ≡ first_of first (flat_map w (flat_map h (drop i xs)))
items_on w h first xs i x within is =
    sym (apart w first (h x) (flat_map h (drop (i + 1) xs)))
    ∙ ap (λ y. first_of first (flat_map w (h y ++ flat_map h (drop (i + 1) xs)))) is
    ∙ sym (ap (λ l. first_of first (flat_map w (flat_map h l))) (drop_more xs i x within))

pub given_on : {X Y Z : Type 0} (w : Y → List Fault) (h : Z → List Y) (f : X → Z) (first : Option Fault) (xs : List X) (i : ℕ) (x : X) → i < length xs → x ≡ get_or xs i x →
    first_of (first_of first (flat_map w (h (f x)))) (flat_map w (flat_map h (map f (drop (i + 1) xs)))) ≡ first_of first (flat_map w (flat_map h (map f (drop i xs))))
given_on w h f first xs i x within is =
    sym (apart w first (h (f x)) (flat_map h (map f (drop (i + 1) xs))))
    ∙ ap (λ y. first_of first (flat_map w (h (f y) ++ flat_map h (map f (drop (i + 1) xs))))) is
    ∙ sym (ap (λ l. first_of first (flat_map w (flat_map h (map f l)))) (drop_more xs i x within))

-- one of the first or one of the others
pub any_of_both : {X Y : Type 0} (p : X → Bool) (f : Y → X) (xs : List X) (ys : List Y) → list_any p (xs ++ map f ys) ≡ (list_any p xs || list_any (λ y. p (f y)) ys)
any_of_both p f [] [] = refl
any_of_both p f [] (y ∷ ys) = ap (λ b. p (f y) || b) (any_of_both p f [] ys)
any_of_both p f (x ∷ xs) ys = ap (λ b. p x || b) (any_of_both p f xs ys) ∙ sym (or_assoc (p x) (list_any p xs) (list_any (λ y. p (f y)) ys))
