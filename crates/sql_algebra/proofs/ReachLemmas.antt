-- The items in reach, and tests over lists in two parts.
use Rattle.std.specs.Prelude.{find, cond, is_some, bytes_eq, map}
use denote.Ref.{Bor}
use Rattle.std.proofs.Common.{◌≡◌, ℕ, ◌↔◌, ◌&&◌, ◌||◌, Bool, true, false, List, [], ◌∷◌, ◌++◌, Option, Some, None, refl, sym, ap, ◌∙◌}
use Rattle.std.specs.List.{list_all}
use Rattle.std.proofs.lemmas.List.Folds.{list_all-append}
use Rattle.sql_algebra.specs.declared.tree.FromItem.{FromItem}
use Rattle.sql_algebra.specs.declared.checks.Reach.{Reach, out-Reach, roll-out-Reach, map-Reach, fold-roll-Reach}
use Rattle.sql_algebra.specs.Soundness.{is_in}
use Rattle.sql_algebra.specs.Reaches.{reach_step, reach_of}

pub all_append : {X : Type 0} (f : X → Bool) (xs ys : List X) → list_all f (xs ++ ys) ≡ (list_all f xs && list_all f ys)
all_append f xs ys = list_all-append f xs ys

pub find_first : {X : Type 0} (f : X → Bool) (xs ys : List X) (x : X) → find f xs ≡ Some x → find f (xs ++ ys) ≡ Some x
find_first f [] ys x h = absurd cc
find_first f (z ∷ xs) ys x h = by (find_first f xs ys x) (f z) h
  where
    by : (find f xs ≡ Some x → find f (xs ++ ys) ≡ Some x) → (b : Bool) → cond b (Some z) (find f xs) ≡ Some x → cond b (Some z) (find f (xs ++ ys)) ≡ Some x
    by e true k = k
    by e false k = e k

pub find_second : {X : Type 0} (f : X → Bool) (xs ys : List X) → find f xs ≡ None → find f (xs ++ ys) ≡ find f ys
find_second f [] ys h = refl
find_second f (z ∷ xs) ys h = by (find_second f xs ys) (f z) h
  where
    by : (find f xs ≡ None → find f (xs ++ ys) ≡ find f ys) → (b : Bool) → cond b (Some z) (find f xs) ≡ None → cond b (Some z) (find f (xs ++ ys)) ≡ find f ys
    by e true k = absurd cc
    by e false k = e k

pub same_bool : (a b : Bool) → ((a ≡ true) ↔ (b ≡ true)) → a ≡ b
same_bool true b h = sym (h.0 refl)
same_bool false true h = h.1 refl
same_bool false false h = refl

-- the items of the selects around it
abbrev pub outside : Option (Bor Reach) → List FromItem
outside None = []
outside (Some outer) = reach_of outer.now

pub at_reach : (r : Reach) → reach_of r ≡ (out-Reach r).own.now ++ outside (out-Reach r).outer
at_reach r = ap reach_of (sym (roll-out-Reach r)) ∙ fold-roll-Reach (List FromItem) reach_step (out-Reach r) ∙ by (out-Reach r).own (out-Reach r).outer
  where
    by : (own : Bor (List FromItem)) (o : Option (Bor Reach)) → reach_step (map-Reach Reach (List FromItem) reach_of (record { own = own; outer = o })) ≡ own.now ++ outside o
    by own None = refl
    by own (Some outer) = refl

pub reached : (name : List ℕ) (items : List FromItem) → is_some (find (λ item. bytes_eq item.alias name) items) ≡ is_in name (map (λ item. item.alias) items)
reached name [] = refl
reached name (x ∷ items) = by (reached name items) (bytes_eq x.alias name)
  where
    by : is_some (find (λ item. bytes_eq item.alias name) items) ≡ is_in name (map (λ item. item.alias) items)
        → (b : Bool) → is_some (cond b (Some x) (find (λ item. bytes_eq item.alias name) items)) ≡ (b || is_in name (map (λ item. item.alias) items))
    by e true = refl
    by e false = e
