-- Members of a list that stand each for one thing, by rows that both have.
use Rattle.std.proofs.Common.{◌≡◌, List, [], ◌∷◌, map, sym, ap, subst, ◌∙◌, inl, inr}
use Rattle.multisets.specs.Bags.{IsIn, IsWithoutRepeats}
use Rattle.graph_meaning.proofs.BlockRows.{once_from}
use Rattle.graph_meaning.proofs.Members.{in_map, from_map}
use Rattle.shortest_lowering.specs.StandsFor.{IsOfOne, AreOneToOne}

-- images that stand once have one source each
one_source : {A B : Type 0} (f : A → B) (xs : List A) → IsWithoutRepeats (map f xs) → (x y : A) → IsIn x xs → IsIn y xs → f x ≡ f y → x ≡ y
one_source f [] once x y h k e = absurd h
one_source f (z ∷ zs) once x y (inl p) (inl q) e = sym p ∙ q
one_source f (z ∷ zs) once x y (inl p) (inr k) e = absurd (once.0 (subst (λ b. IsIn b (map f zs)) (sym (ap f p ∙ e)) (in_map f y zs k)))
one_source f (z ∷ zs) once x y (inr h) (inl q) e = absurd (once.0 (subst (λ b. IsIn b (map f zs)) (e ∙ sym (ap f q)) (in_map f x zs h)))
one_source f (z ∷ zs) once x y (inr h) (inr k) e = one_source f zs once.1 x y h k e

-- Where what is found at the members is, in order, what things are made of, each member stands for the thing that is made of what it has.
module _ {A R B : Type 0} (P : B → Type 0) (rows_of : A → R) (made_of : R → B) (rows_in : B → R) (xs : List A) (passing : List R)
    (finds : map rows_of xs ≡ passing) (once : IsWithoutRepeats passing) (bound : (rows : R) → IsIn rows passing → P (made_of rows) × (rows_in (made_of rows) ≡ rows))
    (found : (y : B) → P y → (rows : R) × IsIn rows passing × (made_of rows ≡ y)) where
  apart : IsWithoutRepeats (map rows_of xs)
  apart = subst IsWithoutRepeats (sym finds) once

  again : (y : B) (known : P y) → rows_in y ≡ (found y known).0
  again y known = let own = found y known in ap rows_in (sym own.2) ∙ (bound own.0 own.1).1

  each_one : (x : A) → IsIn x xs → IsOfOne (λ y. P y × (rows_in y ≡ rows_of x))
  each_one x h =
      let own = bound (rows_of x) (subst (λ (l : List R). IsIn (rows_of x) l) finds (in_map rows_of x xs h)) in
      record {
        one = made_of (rows_of x);
        is = own;
        only = λ other k. sym (found other k.0).2 ∙ ap made_of (sym (again other k.0) ∙ k.1);
      }

  all_one : (y : B) → P y → IsOfOne (λ x. IsIn x xs × (rows_in y ≡ rows_of x))
  all_one y known =
      let own = found y known in
      let of = from_map rows_of own.0 xs (subst (λ (l : List R). IsIn own.0 l) (sym finds) own.1) in
      record {
        one = of.0;
        is = (of.1, again y known ∙ sym of.2);
        only = λ other k. one_source rows_of xs apart other of.0 k.0 of.1 (sym k.1 ∙ again y known ∙ sym of.2);
      }

  pub one_to_one : AreOneToOne xs P (λ x y. rows_in y ≡ rows_of x)
  one_to_one = record { each = each_one; all = all_one; once = once_from rows_of xs apart }
