-- Sums over lists, and how many members pass a test.
use Rattle.std.proofs.Common.{◌≡◌, ℕ, ◌+◌, ◌≤◌, cond, Bool, true, false, List, [], ◌∷◌, ◌++◌, map, length, sum, refl, sym, ap, ◌∙◌, arith, inl, inr}
use Rattle.std.specs.Prelude.{filter, flat_map}
use Rattle.std.proofs.lemmas.List.Sums.{sum_by-cons}
use Rattle.multisets.specs.Bags.{IsIn}

-- the sum of a number for each member
abbrev pub total : {X : Type 0} → (X → ℕ) → List X → ℕ
total f [] = 0
total f (x ∷ xs) = f x + total f xs

pub sum_total : {X : Type 0} (f : X → ℕ) (xs : List X) → sum (map f xs) ≡ total f xs
sum_total f [] = refl
sum_total f (x ∷ xs) = sum_by-cons (λ n. n) (f x) (map f xs) ∙ ap (λ n. f x + n) (sum_total f xs)

pub total_same : {X : Type 0} (f g : X → ℕ) → ((x : X) → f x ≡ g x) → (xs : List X) → total f xs ≡ total g xs
total_same f g same [] = refl
total_same f g same (x ∷ xs) = ap (λ n. n + total f xs) (same x) ∙ ap (λ n. g x + n) (total_same f g same xs)

pub total_least : {X : Type 0} (f g : X → ℕ) (xs : List X) → ((x : X) → IsIn x xs → f x ≤ g x) → total f xs ≤ total g xs
total_least f g [] h = omega arith
total_least f g (x ∷ xs) h =
    let one = h x (inl refl) in
    let others = total_least f g xs (λ y k. h y (inr k)) in
    omega (arith, one, others)

pub total_both : {X : Type 0} (f g : X → ℕ) (xs : List X) → total (λ x. f x + g x) xs ≡ total f xs + total g xs
total_both f g [] = refl
total_both f g (x ∷ xs) = let later = total_both f g xs in omega (arith, later)

total_none : {X : Type 0} (xs : List X) → total (λ x. 0) xs ≡ 0
total_none [] = refl
total_none (x ∷ xs) = let later = total_none xs in omega (arith, later)

-- a sum of sums, in the other order
pub total_turned : {X Y : Type 0} (f : X → Y → ℕ) (xs : List X) (ys : List Y) → total (λ x. total (f x) ys) xs ≡ total (λ y. total (λ x. f x y) xs) ys
total_turned f [] ys = sym (total_none ys)
total_turned f (x ∷ xs) ys = ap (λ n. total (f x) ys + n) (total_turned f xs ys) ∙ sym (total_both (f x) (λ y. total (λ x. f x y) xs) ys)

pub total_append : {X : Type 0} (f : X → ℕ) (xs ys : List X) → total f (xs ++ ys) ≡ total f xs + total f ys
total_append f [] ys = omega arith
total_append f (x ∷ xs) ys = let later = total_append f xs ys in omega (arith, later)

pub total_map : {X Y : Type 0} (f : Y → ℕ) (g : X → Y) (xs : List X) → total f (map g xs) ≡ total (λ x. f (g x)) xs
total_map f g [] = refl
total_map f g (x ∷ xs) = ap (λ n. f (g x) + n) (total_map f g xs)

pub total_flat : {X Y : Type 0} (f : Y → ℕ) (g : X → List Y) (xs : List X) → total f (flat_map g xs) ≡ total (λ x. total f (g x)) xs
total_flat f g [] = refl
total_flat f g (x ∷ xs) = total_append f (g x) (flat_map g xs) ∙ ap (λ n. total f (g x) + n) (total_flat f g xs)

-- the members that pass
pub total_filter : {X : Type 0} (f : X → ℕ) (p : X → Bool) (xs : List X) → total f (filter p xs) ≡ total (λ x. cond (p x) (f x) 0) xs
total_filter f p [] = refl
total_filter {X} f p (x ∷ xs) = by (p x) (total_filter f p xs)
  where
    by : (b : Bool) → total f (filter p xs) ≡ total (λ x. cond (p x) (f x) 0) xs → total f (cond b (x ∷ filter p xs) (filter p xs))
        ≡ cond b (f x) 0 + total (λ x. cond (p x) (f x) 0) xs
    by true h = ap (λ n. f x + n) h
    by false h = h ∙ sym (omega arith)

pub length_total : {X : Type 0} (xs : List X) → length xs ≡ total (λ x. 1) xs
length_total [] = refl
length_total (x ∷ xs) = let later = length_total xs in omega (arith, later)
