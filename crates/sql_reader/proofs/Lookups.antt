-- What stands at the place of a name.
use Rattle.std.proofs.Common.{◌≡◌, ◌∙◌, ℕ, suc, Bool, true, false, ◌||◌, cond, List, [], ◌∷◌, map, length, take, refl, sym, ap, Option, Some, None, is_some, option_map}
use Rattle.std.proofs.Common.{slice_get, bytes_eq}
use Rattle.std.specs.List.{find}
use Rattle.std.specs.Cmp.Lexicographic.{nat_list_eq_equiv}
use Rattle.sql_algebra.specs.Soundness.{is_in}
use Rattle.first_faults.specs.Places.{first_place}
use Rattle.first_faults.proofs.PlaceLemmas.{found_at_place, at_place}

all_taken : {X : Type 0} (xs : List X) → take (length xs) xs ≡ xs
all_taken [] = refl
all_taken (x ∷ xs) = ap (λ l. x ∷ l) (all_taken xs)

at_found : {X : Type 0} (f : X → List ℕ) (name : List ℕ) (xs : List X) → at_place (first_place name (map f xs)) xs ≡ find (λ y. bytes_eq (f y) name) xs
at_found f name xs =
    ap (λ l. at_place (first_place name (map f l)) xs) (sym (all_taken xs)) ∙ found_at_place f name (length xs) xs ∙ ap (find (λ y. bytes_eq (f y) name)) (all_taken xs)

pub not_found : {X : Type 0} (f : X → List ℕ) (name : List ℕ) (xs : List X) → first_place name (map f xs) ≡ None → None ≡ find (λ y. bytes_eq (f y) name) xs
not_found f name xs h = ap (λ o. at_place o xs) (sym h) ∙ at_found f name xs

pub found : {X : Type 0} (f : X → List ℕ) (name : List ℕ) (xs : List X) (place : ℕ) → first_place name (map f xs) ≡ Some place → slice_get xs place
    ≡ find (λ y. bytes_eq (f y) name) xs
found f name xs place h = ap (λ o. at_place o xs) (sym h) ∙ at_found f name xs

some_map : (o : Option ℕ) → is_some (option_map (λ n. suc n) o) ≡ is_some o
some_map None = refl
some_map (Some n) = refl

-- a name has a place exactly where it is one of the names
pub among_places : (name : List ℕ) (names : List (List ℕ)) → is_some (first_place name names) ≡ is_in name names
among_places name [] = refl
among_places name (n ∷ names) = go (among_places name names) (bytes_eq name n) (nat_list_eq_equiv.symm name n)
  where
    go : is_some (first_place name names) ≡ is_in name names → (b : Bool) → b ≡ bytes_eq n name → is_some (cond b (Some 0) (option_map (λ m. suc m) (first_place name names)))
        ≡ (bytes_eq n name || is_in name names)
    go rest true e = rw (← e) refl
    go rest false e = rw (← e) (some_map (first_place name names) ∙ rest)

-- the item of a name, shown otherwise
pub find_shown : {X Y : Type 0} (show : X → Y) (p : Y → Bool) (xs : List X) → option_map show (find (λ x. p (show x)) xs) ≡ find p (map show xs)
find_shown show p [] = refl
find_shown show p (x ∷ xs) = by (p (show x)) (find_shown show p xs)
  where
    by : (b : Bool) → option_map show (find (λ y. p (show y)) xs) ≡ find p (map show xs) → option_map show (cond b (Some x) (find (λ y. p (show y)) xs))
        ≡ cond b (Some (show x)) (find p (map show xs))
    by true e = refl
    by false e = e
