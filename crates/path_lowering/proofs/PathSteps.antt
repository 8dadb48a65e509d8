-- A first member and the others.
use Rattle.std.proofs.Common.{◌≡◌, ℕ, zero, suc, ◌-◌, ◌+◌, ◌≤◌, ◌<◌, add-one, List, [], ◌∷◌, ◌++◌, map, length, get_or, take, drop, refl, sym, ap, ap₂, ◌∙◌, arith, append_assoc}
use Rattle.graph_ast.specs.declared.catalog.Catalog.{Catalog}
use Rattle.graph_ast.specs.declared.catalog.Graph.{Graph}
use Rattle.graph_ast.specs.declared.checked.CheckedPath.{CheckedPath}
use Rattle.graph_ast.specs.declared.blocks.PathBlock.{PathBlock}
use Rattle.path_lowering.specs.Emitted.{SqlCondition}
use Rattle.path_lowering.specs.Lowered.{Combining, lay, lay_all}
use Rattle.path_lowering.proofs.Lists.{map-append}
use Rattle.path_lowering.specs.Adding.{conditions_of, conditions_along}

take_whole : {X : Type 0} (xs : List X) (n : ℕ) → length xs ≤ n → take n xs ≡ xs
take_whole [] zero h = refl
take_whole [] (suc n) h = refl
take_whole (x ∷ xs) zero h = absurd (omega arith)
take_whole (x ∷ xs) (suc n) h = ap (λ l. x ∷ l) (take_whole xs n (omega arith))

drop_short : {X : Type 0} (xs : List X) (k : ℕ) → length (drop k xs) ≤ length xs - k
drop_short xs zero = omega arith
drop_short [] (suc k) = omega arith
drop_short (x ∷ xs) (suc k) = let h = drop_short xs k in omega (arith, h)

-- all that is behind a place
pub behind_is : {X : Type 0} (xs : List X) (k : ℕ) → take (length xs - k) (drop k xs) ≡ drop k xs
behind_is xs k = take_whole (drop k xs) (length xs - k) (drop_short xs k)

pub head_tail : {X : Type 0} (xs : List X) (x : X) → x ≡ get_or xs 0 x → 1 ≤ length xs → xs ≡ x ∷ take (length xs - 1) (drop 1 xs)
head_tail [] x is h = absurd (omega arith)
head_tail (y ∷ ys) x is h = ap₂ (λ z l. z ∷ l) (sym is) (sym (behind_is (y ∷ ys) 1))

pub rejoined : {A B : Type 0} (f : A → B) (xs : List A) (x : A) (b : B) (bs : List B) → x ≡ get_or xs 0 x → 1 ≤ length xs → b ≡ f x → bs
    ≡ map f (take (length xs - 1) (drop 1 xs)) → b ∷ bs ≡ map f xs
rejoined f xs x b bs is h one more = ap₂ (λ z l. z ∷ l) one more ∙ sym (ap (map f) (head_tail xs x is h))

-- the conditions of a first path, and those of the others
pub along_joined : (catalog : Catalog) (graph : Graph) (prefix : ℕ) (combined : Combining) (paths : List CheckedPath) (parts : List PathBlock) (items : List ℕ)
    (path : CheckedPath) (part : PathBlock) (k : ℕ)
    (before made : List SqlCondition) → path ≡ get_or paths 0 path → 1 ≤ length paths → part ≡ get_or parts 0 part → 1 ≤ length parts → k ≡ length part.elements
    → made ≡ before ++ conditions_of catalog graph prefix (lay catalog graph prefix combined path part items)
    → made ++ conditions_along catalog graph prefix (lay_all catalog graph prefix combined (take (length paths - 1) (drop 1 paths)) (take (length parts - 1) (drop 1 parts))
    (take (length items - k) (drop k items)))
    ≡ before ++ conditions_along catalog graph prefix (lay_all catalog graph prefix combined paths parts items)
along_joined catalog graph prefix combined paths parts items path part k before made p some q more n is =
    ap₂ (λ l r. l ++ conditions_along catalog graph prefix (lay_all catalog graph prefix combined (take (length paths - 1) (drop 1 paths))
    (take (length parts - 1) (drop 1 parts)) r)) is
    (behind_is items k ∙ ap (λ m. drop m items) n)
    ∙ append_assoc before (conditions_of catalog graph prefix (lay catalog graph prefix combined path part items))
    (conditions_along catalog graph prefix (lay_all catalog graph prefix combined (take (length paths - 1) (drop 1 paths)) (take (length parts - 1) (drop 1 parts))
    (drop (length part.elements) items)))
    ∙ ap₂ (λ xs ys. before ++ conditions_along catalog graph prefix (lay_all catalog graph prefix combined xs ys items)) (sym (head_tail paths path p some))
    (sym (head_tail parts part q more))

take_next : {X : Type 0} (xs : List X) (i : ℕ) (x : X) → x ≡ get_or xs i x → i < length xs → take (suc i) xs ≡ take i xs ++ x ∷ []
take_next [] i x is h = absurd (omega arith)
take_next (y ∷ ys) zero x is h = ap (λ z. z ∷ []) (sym is)
take_next (y ∷ ys) (suc i) x is h = ap (λ l. y ∷ l) (take_next ys i x is (omega arith))

-- one image more
pub mapped_next : {A B : Type 0} (f : A → B) (xs : List A) (i : ℕ) (x : A) (y : B) (made new : List B) → x ≡ get_or xs i x → i < length xs → made ≡ map f (take i xs) → y ≡ f x
    → new ≡ made ++ y ∷ []
    → new ≡ map f (take (i + 1) xs)
mapped_next f xs i x y made new is h so_far one joined =
    joined ∙ ap₂ (λ l z. l ++ z ∷ []) so_far one ∙ sym (ap (map f) (rw add-one (take_next xs i x is h)) ∙ map-append f (take i xs) (x ∷ []))
