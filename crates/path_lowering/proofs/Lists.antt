-- Lists that are kept, mapped and joined.
use Rattle.std.proofs.Common.{◌≡◌, Bool, true, false, ◌&&◌, cond, List, [], ◌∷◌, ◌++◌, map, filter, flat_map, refl, sym, ap, ap₂, ◌∙◌, inl, inr, append_assoc}
use Rattle.multisets.specs.Bags.{IsIn}

pub flat_map-each : {A B : Type 0} (f g : A → List B) (xs : List A) → ((x : A) → IsIn x xs → f x ≡ g x) → flat_map f xs ≡ flat_map g xs
flat_map-each f g [] same = refl
flat_map-each f g (x ∷ xs) same = ap₂ ◌++◌ (same x (inl refl)) (flat_map-each f g xs (λ y h. same y (inr h)))

pub map-each : {A B : Type 0} (f g : A → B) (xs : List A) → ((x : A) → IsIn x xs → f x ≡ g x) → map f xs ≡ map g xs
map-each f g [] same = refl
map-each f g (x ∷ xs) same = ap₂ (λ a l. a ∷ l) (same x (inl refl)) (map-each f g xs (λ y h. same y (inr h)))

pub filter-each : {A : Type 0} (p q : A → Bool) (xs : List A) → ((x : A) → IsIn x xs → p x ≡ q x) → filter p xs ≡ filter q xs
filter-each p q [] same = refl
filter-each p q (x ∷ xs) same = ap₂ (λ b l. cond b (x ∷ l) l) (same x (inl refl)) (filter-each p q xs (λ y h. same y (inr h)))

pub map-again : {A B C : Type 0} (f : B → C) (g : A → B) (xs : List A) → map f (map g xs) ≡ map (λ x. f (g x)) xs
map-again f g [] = refl
map-again f g (x ∷ xs) = ap (λ l. f (g x) ∷ l) (map-again f g xs)

pub append-nil : {A : Type 0} (xs : List A) → xs ++ [] ≡ xs
append-nil [] = refl
append-nil (x ∷ xs) = ap (λ l. x ∷ l) (append-nil xs)

pub map-append : {A B : Type 0} (f : A → B) (xs ys : List A) → map f (xs ++ ys) ≡ map f xs ++ map f ys
map-append f [] ys = refl
map-append f (x ∷ xs) ys = ap (λ l. f x ∷ l) (map-append f xs ys)

pub map_joined : {A B : Type 0} (f : A → B) (made : List B) (xs ys : List A) → (made ++ map f xs) ++ map f ys ≡ made ++ map f (xs ++ ys)
map_joined f made xs ys = append_assoc made (map f xs) (map f ys) ∙ ap (λ l. made ++ l) (sym (map-append f xs ys))

pub two_joined : {A B : Type 0} (f : A → B) (front back : List A) (made one two first all whole : List B) → made ≡ whole → one ≡ map f front → two ≡ map f back → first
    ≡ made ++ one → all ≡ first ++ two
    → all ≡ whole ++ map f (front ++ back)
two_joined f front back made one two first all whole m o t fi al =
    al ∙ ap₂ (λ x y. x ++ y) (fi ∙ ap₂ (λ x y. x ++ y) m o) t ∙ map_joined f whole front back

pub map-flat_map : {A B C : Type 0} (g : B → C) (f : A → List B) (xs : List A) → map g (flat_map f xs) ≡ flat_map (λ x. map g (f x)) xs
map-flat_map g f [] = refl
map-flat_map g f (x ∷ xs) = map-append g (f x) (flat_map f xs) ∙ ap (λ l. map g (f x) ++ l) (map-flat_map g f xs)

pub filter-append : {A : Type 0} (p : A → Bool) (xs ys : List A) → filter p (xs ++ ys) ≡ filter p xs ++ filter p ys
filter-append p [] ys = refl
filter-append p (x ∷ xs) ys = go (p x) (filter-append p xs ys)
  where
    go : (b : Bool) → filter p (xs ++ ys) ≡ filter p xs ++ filter p ys
        → cond b (x ∷ filter p (xs ++ ys)) (filter p (xs ++ ys)) ≡ cond b (x ∷ filter p xs) (filter p xs) ++ filter p ys
    go true e = ap (λ l. x ∷ l) e
    go false e = e

pub filter-flat_map : {A B : Type 0} (p : B → Bool) (f : A → List B) (xs : List A) → filter p (flat_map f xs) ≡ flat_map (λ x. filter p (f x)) xs
filter-flat_map p f [] = refl
filter-flat_map p f (x ∷ xs) = filter-append p (f x) (flat_map f xs) ∙ ap (λ l. filter p (f x) ++ l) (filter-flat_map p f xs)

pub filter-map : {A B : Type 0} (p : B → Bool) (h : A → B) (xs : List A) → filter p (map h xs) ≡ map h (filter (λ x. p (h x)) xs)
filter-map p h [] = refl
filter-map p h (x ∷ xs) = go (p (h x)) (filter-map p h xs)
  where
    go : (b : Bool) → filter p (map h xs) ≡ map h (filter (λ x. p (h x)) xs)
        → cond b (h x ∷ filter p (map h xs)) (filter p (map h xs)) ≡ map h (cond b (x ∷ filter (λ x. p (h x)) xs) (filter (λ x. p (h x)) xs))
    go true e = ap (λ l. h x ∷ l) e
    go false e = e

pub filter-none : {A : Type 0} (xs : List A) → filter (λ x. false) xs ≡ []
filter-none [] = refl
filter-none (x ∷ xs) = filter-none xs

pub filter-and : {A : Type 0} (b : Bool) (p : A → Bool) (xs : List A) → filter (λ x. b && p x) xs ≡ cond b (filter p xs) []
filter-and true p xs = refl
filter-and false p xs = filter-none xs

-- what passes a stronger test passes the weaker one
pub filter-twice : {A : Type 0} (p q : A → Bool) (xs : List A) → ((x : A) → IsIn x xs → p x ≡ true → q x ≡ true) → filter p (filter q xs) ≡ filter p xs
filter-twice p q [] h = refl
filter-twice p q (x ∷ xs) h = go (q x) refl (filter-twice p q xs (λ y k. h y (inr k)))
  where
    go : (b : Bool) → q x ≡ b → filter p (filter q xs) ≡ filter p xs → filter p (cond b (x ∷ filter q xs) (filter q xs)) ≡ filter p (x ∷ xs)
    go true e more = ap (λ l. cond (p x) (x ∷ l) l) more
    go false e more = more ∙ dropped (p x) refl
      where
        dropped : (c : Bool) → p x ≡ c → filter p xs ≡ cond c (x ∷ filter p xs) (filter p xs)
        dropped true s = let k : q x ≡ true = h x (inl refl) s in let l : true ≡ false = sym k ∙ e in cc
        dropped false s = refl

pub map-filter : {A B : Type 0} (p : B → Bool) (h : A → B) (xs : List A) → map h (filter (λ x. p (h x)) xs) ≡ filter p (map h xs)
map-filter p h xs = sym (filter-map p h xs)
