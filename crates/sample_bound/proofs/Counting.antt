-- How many members lists have that are made of the members of others.
use Rattle.std.proofs.Common.{◌≡◌, ℕ, ◌+◌, ◌*◌, ◌≤◌, inl, inr, Bool, true, false, cond, List, [], ◌∷◌, ◌++◌, map, filter, flat_map, length, Option, None, Some, refl, sym, subst}
use Rattle.std.proofs.Common.{ap, ◌∙◌, arith, true≢false, length-append}
use Rattle.std.specs.List.{filter_map, cons_option}
use Rattle.std.proofs.Math.Nat.{mul-suc}
use Rattle.std.proofs.lemmas.List.Elements.{filter-append}
use Rattle.std.proofs.lemmas.List.Sums.{length-filter, count_by-le-length}
use Rattle.multisets.specs.Bags.{IsIn, IsWithoutRepeats}

module _ {A : Type 0} (p : A → Bool) where
  pub no_more : (xs : List A) → length (filter p xs) ≤ length xs
  no_more xs = omega (arith, length-filter p xs, count_by-le-length p xs)

  pub none_passes : (xs : List A) → ((x : A) → IsIn x xs → p x ≡ true → ⊥) → length (filter p xs) ≤ 0
  none_passes [] none = omega arith
  none_passes (x ∷ xs) none = go (p x) refl (none_passes xs (λ y there. none y (inr there)))
    where
      go : (b : Bool) → p x ≡ b → length (filter p xs) ≤ 0 → length (cond b (x ∷ filter p xs) (filter p xs)) ≤ 0
      go true passes later = absurd (none x (inl refl) passes)
      go false passes later = later

  -- where what passes is one member, it is found once at most
  pub at_most_one : (xs : List A) → IsWithoutRepeats xs → ((x y : A) → p x ≡ true → p y ≡ true → x ≡ y) → length (filter p xs) ≤ 1
  at_most_one [] once one = omega arith
  at_most_one (x ∷ xs) once one = go (p x) refl (at_most_one xs once.1 one)
    where
      go : (b : Bool) → p x ≡ b → length (filter p xs) ≤ 1 → length (cond b (x ∷ filter p xs) (filter p xs)) ≤ 1
      go true passes later = omega (arith, none_passes xs (λ y there too. once.0 (subst (λ z. IsIn z xs) (one y x too passes) there)))
      go false passes later = later

-- where each member that passes makes at most k, and each other one none
module _ {A B : Type 0} (f : A → List B) (p : A → Bool) (k : ℕ) (few : (x : A) → length (f x) ≤ cond (p x) k 0) where
  pub few_made : (xs : List A) → length (flat_map f xs) ≤ k * length (filter p xs)
  few_made [] = omega arith
  few_made (x ∷ xs) = subst (λ n. n ≤ k * length (filter p (x ∷ xs))) (sym (length-append (f x) (flat_map f xs))) (go (p x) (few x) (few_made xs))
    where
      go : (b : Bool) → length (f x) ≤ cond b k 0 → length (flat_map f xs) ≤ k * length (filter p xs)
          → length (f x) + length (flat_map f xs) ≤ k * length (cond b (x ∷ filter p xs) (filter p xs))
      go true here later = omega (arith, mul-suc k (length (filter p xs)))
      go false here later = omega arith

module _ {A B : Type 0} (q : B → Bool) (f : A → List B) where
  filter_flat : (xs : List A) → filter q (flat_map f xs) ≡ flat_map (λ x. filter q (f x)) xs
  filter_flat [] = refl
  filter_flat (x ∷ xs) = filter-append q (f x) (flat_map f xs) ∙ ap (λ l. filter q (f x) ++ l) (filter_flat xs)

-- the same of those that pass a test among what is made
module _ {A B : Type 0} (f : A → List B) (q : B → Bool) (p : A → Bool) (k : ℕ) (few : (x : A) → length (filter q (f x)) ≤ cond (p x) k 0) where
  pub few_pass : (xs : List A) → length (filter q (flat_map f xs)) ≤ k * length (filter p xs)
  few_pass xs = subst (λ l. length l ≤ k * length (filter p xs)) (sym (filter_flat q f xs)) (few_made (λ x. filter q (f x)) p k few xs)

-- where only what passes makes something that passes
module _ {A B : Type 0} (f : A → Option B) (q : B → Bool) (p : A → Bool) (only : (x : A) (y : B) → f x ≡ Some y → q y ≡ true → p x ≡ true) where
  pub no_more_kept : (xs : List A) → length (filter q (filter_map f xs)) ≤ length (filter p xs)
  no_more_kept [] = omega arith
  no_more_kept (x ∷ xs) = go (f x) (p x) (only x) (no_more_kept xs)
    where
      found : (y : B) (b c : Bool) → (c ≡ true → b ≡ true) → length (filter q (filter_map f xs)) ≤ length (filter p xs)
          → length (cond c (y ∷ filter q (filter_map f xs)) (filter q (filter_map f xs))) ≤ length (cond b (x ∷ filter p xs) (filter p xs))
      found y true true passes later = omega arith
      found y true false passes later = omega arith
      found y false true passes later = absurd (true≢false (sym (passes refl)))
      found y false false passes later = later

      go : (o : Option B) (b : Bool) → ((y : B) → o ≡ Some y → q y ≡ true → b ≡ true) → length (filter q (filter_map f xs)) ≤ length (filter p xs)
          → length (filter q (cons_option o (filter_map f xs))) ≤ length (cond b (x ∷ filter p xs) (filter p xs))
      go None true passes later = omega arith
      go None false passes later = later
      go (Some y) b passes later = found y b (q y) (passes y refl) later

-- what is made of those that are kept
module _ {A B : Type 0} (g : A → B) (kept : A → Bool) (p : B → Bool) where
  abbrev passing : List A → List A
  passing xs = filter (λ x. p (g x)) xs

  abbrev made : List A → List B
  made xs = filter p (map g (filter kept xs))

  pub no_more_mapped : (xs : List A) → length (made xs) ≤ length (passing xs)
  no_more_mapped [] = omega arith
  no_more_mapped (x ∷ xs) = go (kept x) (no_more_mapped xs)
    where
      both : (c : Bool) → length (made xs) ≤ length (passing xs) → length (cond c (g x ∷ made xs) (made xs)) ≤ length (cond c (x ∷ passing xs) (passing xs))
      both true later = omega arith
      both false later = later

      less : (c : Bool) → length (made xs) ≤ length (passing xs) → length (made xs) ≤ length (cond c (x ∷ passing xs) (passing xs))
      less true later = omega arith
      less false later = later

      go : (b : Bool) → length (made xs) ≤ length (passing xs)
          → length (filter p (map g (cond b (x ∷ filter kept xs) (filter kept xs)))) ≤ length (passing (x ∷ xs))
      go true later = both (p (g x)) later
      go false later = less (p (g x)) later
