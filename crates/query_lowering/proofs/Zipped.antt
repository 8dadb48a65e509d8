-- What is made of each member of a list, beside it and alone.
use Rattle.std.proofs.Common.{◌≡◌, List, [], ◌∷◌, map, refl, sym, subst, inl, inr}
use Rattle.std.specs.List.{AllZip}
use Rattle.multisets.specs.Bags.{IsIn}
use Rattle.graph_meaning.proofs.Members.{from_map}

pub zip_made : {A B : Type 0} (P : A → B → Type 0) (f : A → B) (xs : List A) (ys : List B) → ys ≡ map f xs → ((x : A) → IsIn x xs → P x (f x)) → AllZip P xs ys
zip_made {A} {B} P f xs ys is each = subst (λ (l : List B). AllZip P xs l) (sym is) (go xs each)
  where
    go : (xs : List A) → ((x : A) → IsIn x xs → P x (f x)) → AllZip P xs (map f xs)
    go [] each = tt
    go (x ∷ xs) each = (each x (inl refl), go xs (λ y k. each y (inr k)))

pub each_made : {A B : Type 0} (P : B → Type 0) (f : A → B) (xs : List A) (ys : List B) → ys ≡ map f xs → ((x : A) → IsIn x xs → P (f x)) → (y : B) → IsIn y ys → P y
each_made P f xs ys is each y h =
    let made = from_map f y xs (subst (λ (l : List _). IsIn y l) is h) in subst P made.2 (each made.0 made.1)
