-- What was found apart is put together: the first of some faults and of the first of some more.
use Rattle.std.proofs.Common.{◌≡◌, ℕ, Bool, true, false, ◌&&◌, ◌||◌, ◌==◌, cond, nat_lt, List, [], ◌∷◌, refl, ap, sym, ◌∙◌, Option, None, Some, option_to_list, arith}
use Rattle.std.proofs.lemmas.Bool.Decides.{nat_tests}
use Rattle.pgq_base.specs.Codes.{number_of}
use Rattle.first_faults.specs.declared.faults.Fault.{Fault}
use Rattle.first_faults.specs.Faults.{is_before, earlier, first_of}

abbrev lower : ℕ → ℕ → ℕ → ℕ → ℕ → ℕ → Bool
lower a b c x y z = nat_lt a x || (a == x && (nat_lt b y || (b == y && nat_lt c z)))

lower_through : (a b c x y z p q r : ℕ) → lower a b c x y z ≡ true → lower x y z p q r ≡ true → lower a b c p q r ≡ true
lower_through a b c x y z p q r g h = grind (arith, nat_tests)

lower_chain : (a b c x y z p q r : ℕ) → lower a b c x y z ≡ false → lower x y z p q r ≡ false → lower a b c p q r ≡ false
lower_chain a b c x y z p q r g h = grind (arith, nat_tests)

before_through : (f g h : Fault) → is_before f g ≡ true → is_before g h ≡ true → is_before f h ≡ true
unfolding is_before
before_through f g h a b = lower_through f.span.from f.span.to (number_of f.code) g.span.from g.span.to (number_of g.code) h.span.from h.span.to (number_of h.code) a b

before_chain : (f g h : Fault) → is_before f g ≡ false → is_before g h ≡ false → is_before f h ≡ false
unfolding is_before
before_chain f g h a b = lower_chain f.span.from f.span.to (number_of f.code) g.span.from g.span.to (number_of g.code) h.span.from h.span.to (number_of h.code) a b

-- a fault before another hides it
hides : (a : Option Fault) (x y : Fault) → is_before y x ≡ true → earlier (earlier a x) y ≡ earlier a y
unfolding earlier
hides None x y e = rw e refl
hides (Some g) x y e = go (is_before x g) refl
  where
    go : (b : Bool) → is_before x g ≡ b → earlier (cond b (Some x) (Some g)) y ≡ earlier (Some g) y
    go true d = let through : is_before y g ≡ true = before_through y x g e d in
        rw (e, through) refl
    go false d = refl

-- and one that is not before it is hidden
is_hidden : (a : Option Fault) (x y : Fault) → is_before y x ≡ false → earlier (earlier a x) y ≡ earlier a x
unfolding earlier
is_hidden None x y e = rw e refl
is_hidden (Some g) x y e = go (is_before x g) refl
  where
    go : (b : Bool) → is_before x g ≡ b → earlier (cond b (Some x) (Some g)) y ≡ cond b (Some x) (Some g)
    go true d = rw e refl
    go false d = let through : is_before y g ≡ false = before_chain y x g e d in
        rw through refl

together : (a : Option Fault) (x : Fault) (xs : List Fault) → first_of a (option_to_list (first_of (Some x) xs)) ≡ first_of (earlier a x) xs
unfolding earlier
together a x [] = refl
together a x (y ∷ ys) = go (is_before y x) refl (together a y ys) (together a x ys)
  where
    go : (b : Bool) → is_before y x ≡ b → first_of a (option_to_list (first_of (Some y) ys)) ≡ first_of (earlier a y) ys →
        first_of a (option_to_list (first_of (Some x) ys)) ≡ first_of (earlier a x) ys →
        first_of a (option_to_list (first_of (cond b (Some y) (Some x)) ys)) ≡ first_of (earlier (earlier a x) y) ys
    go true e before behind = before ∙ ap (λ o. first_of o ys) (sym (hides a x y e))
    go false e before behind = behind ∙ ap (λ o. first_of o ys) (sym (is_hidden a x y e))

pub first_of_found : (a : Option Fault) (xs : List Fault) → first_of a (option_to_list (first_of None xs)) ≡ first_of a xs
unfolding earlier
first_of_found a [] = refl
first_of_found a (x ∷ xs) = together a x xs
