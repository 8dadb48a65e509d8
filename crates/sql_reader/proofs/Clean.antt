-- Lists of faults that are empty.
use Rattle.std.proofs.Common.{◌≡◌, Bool, true, false, not, ◌&&◌, List, [], ◌∷◌, ◌++◌, map, refl, sym, ap, ◌∙◌, subst, None}
use Rattle.std.specs.List.{list_all, flat_map}
use Rattle.pgq_base.specs.declared.code.Code.{Code}
use Rattle.pgq_base.specs.declared.refusal.Span.{Span}
use Rattle.first_faults.specs.declared.faults.Fault.{Fault}
use Rattle.first_faults.specs.Faults.{when, first_of, IsFirst}
use Rattle.first_faults.proofs.LeastLemmas.{first_of_is_first}

-- there is no fault among them
abbrev pub no_fault : List Fault → Bool
no_fault [] = true
no_fault (f ∷ faults) = false

pub no_fault_append : (xs ys : List Fault) → no_fault (xs ++ ys) ≡ (no_fault xs && no_fault ys)
no_fault_append [] ys = refl
no_fault_append (x ∷ xs) ys = refl

pub no_fault_when : (b : Bool) (c : Code) (s : Span) → no_fault (when b c s) ≡ not b
no_fault_when true c s = refl
no_fault_when false c s = refl

pub no_fault_unless : (b : Bool) (c : Code) (s : Span) → no_fault (when (not b) c s) ≡ b
no_fault_unless true c s = refl
no_fault_unless false c s = refl

pub no_fault_flat : {X : Type 0} (f : X → List Fault) (xs : List X) → no_fault (flat_map f xs) ≡ list_all (λ x. no_fault (f x)) xs
no_fault_flat f [] = refl
no_fault_flat f (x ∷ xs) = no_fault_append (f x) (flat_map f xs) ∙ ap (λ b. no_fault (f x) && b) (no_fault_flat f xs)

pub emptied : (xs : List Fault) → no_fault xs ≡ true → xs ≡ []
emptied [] h = refl
emptied (x ∷ xs) h = absurd cc

pub none_first : (xs : List Fault) → first_of None xs ≡ None → no_fault xs ≡ true
none_first xs h = ap no_fault (subst (IsFirst xs) h (first_of_is_first xs))

pub first_none : (xs : List Fault) → no_fault xs ≡ true → first_of None xs ≡ None
first_none xs h = ap (first_of None) (emptied xs h)

-- ---- conjunctions

pub and_true : (b : Bool) → (b && true) ≡ b
and_true true = refl
and_true false = refl

pub and_false : (b : Bool) → (b && false) ≡ false
and_false true = refl
and_false false = refl

pub both : (a b : Bool) → (a && b) ≡ true → (a ≡ true) × (b ≡ true)
both true b h = (refl, h)
both false b h = (h, cc)

pub pair : (a b : Bool) → a ≡ true → b ≡ true → (a && b) ≡ true
pair a b h g = ap (λ x. x && b) h ∙ g

-- ---- what three tests tell

-- the three hold exactly where the fourth does
pub record Tells (names types shape sound : Bool) : Type 0 where
  pub there : names ≡ true → types ≡ true → shape ≡ true → sound ≡ true
  pub names_hold : sound ≡ true → names ≡ true
  pub types_hold : sound ≡ true → types ≡ true
  pub shape_holds : sound ≡ true → shape ≡ true

pub tells_both : (a b c d e f g h : Bool) → Tells a b c d → Tells e f g h → Tells (a && e) (b && f) (c && g) (d && h)
tells_both a b c d e f g h x y = record {
  there = λ p q r. pair d h (x.there (both a e p).0 (both b f q).0 (both c g r).0) (y.there (both a e p).1 (both b f q).1 (both c g r).1);
  names_hold = λ s. pair a e (x.names_hold (both d h s).0) (y.names_hold (both d h s).1);
  types_hold = λ s. pair b f (x.types_hold (both d h s).0) (y.types_hold (both d h s).1);
  shape_holds = λ s. pair c g (x.shape_holds (both d h s).0) (y.shape_holds (both d h s).1);
}

pub tells_nothing : Tells true true true true
tells_nothing = record { there = λ p q r. refl; names_hold = λ s. refl; types_hold = λ s. refl; shape_holds = λ s. refl }

pub tells_all : {X Y : Type 0} (a b c : X → Bool) (d : Y → Bool) (g : X → Y) → ((x : X) → Tells (a x) (b x) (c x) (d (g x))) → (xs : List X)
    → Tells (list_all a xs) (list_all b xs) (list_all c xs) (list_all d (map g xs))
tells_all a b c d g each [] = tells_nothing
tells_all a b c d g each (x ∷ xs) = tells_both (a x) (b x) (c x) (d (g x)) (list_all a xs) (list_all b xs) (list_all c xs) (list_all d (map g xs)) (each x)
    (tells_all a b c d g each xs)

pub tells_by : (a b c d e f g h : Bool) → a ≡ e → b ≡ f → c ≡ g → d ≡ h → Tells e f g h → Tells a b c d
tells_by a b c d e f g h p q r s x = record {
  there = λ i j k. s ∙ x.there (sym p ∙ i) (sym q ∙ j) (sym r ∙ k);
  names_hold = λ i. p ∙ x.names_hold (sym s ∙ i);
  types_hold = λ i. q ∙ x.types_hold (sym s ∙ i);
  shape_holds = λ i. r ∙ x.shape_holds (sym s ∙ i);
}
