-- Rows of path blocks, list by list.
use Rattle.std.proofs.Common.{◌≡◌, ℕ, zero, suc, ◌+◌, ◌<◌, ◌≤◌, inl, inr, Bool, true, false, cond, ◌&&◌, List, [], ◌∷◌, ◌++◌, map, filter, flat_map, length, take, drop, get_or}
use Rattle.std.proofs.Common.{nat_eq, bytes_eq, Option, None, Some, refl, sym, ap, ap₂, ◌∙◌, arith, true≢false}
use Rattle.std.specs.List.{list_any, list_all}
use Rattle.std.proofs.lemmas.List.Folds.{list_all-append}
use Rattle.std.proofs.lemmas.Bool.Decides.{Decides-eqb}
use Rattle.std.proofs.lemmas.List.{drop_more, drop_all, append-nil}
use Rattle.multisets.specs.Bags.{IsIn}
use Rattle.graph_ast.specs.declared.blocks.Tags.{Tags}
use Rattle.graph_meaning.specs.Lists.{first_of, all_same, tagged, combinations}
use Rattle.graph_meaning.proofs.Members.{each_of, all_from, from_filter}
use Rattle.normal_form.specs.declared.rows.Costed.{Costed}
use Rattle.normal_form.specs.Rows.{BlockCost, seen, tagged_in, tagged_along, is_joined, are_as, joins, extended, joined}
use Rattle.normal_form.proofs.FollowLemmas.{filter_of_map, same_filter, same_flat_in}
use Rattle.normal_form.proofs.Joining.{flat_parts, same_shorter, kept_end}

-- tests that answer alike for each member
pub all_alike : {X : Type 0} (p q : X → Bool) (xs : List X) → ((x : X) → IsIn x xs → p x ≡ q x) → list_all p xs ≡ list_all q xs
all_alike p q [] h = refl
all_alike p q (x ∷ xs) h = ap₂ (λ b c. b && c) (h x (inl refl)) (all_alike p q xs (λ y k. h y (inr k)))

-- all are the same where the first ones are, and the others are as they
same_behind : (xs ys : List ℕ) → all_same nat_eq xs ≡ true → all_same nat_eq (xs ++ ys) ≡ are_as (first_of xs) ys
same_behind [] ys h = refl
same_behind (x ∷ xs) ys h = list_all-append (nat_eq x) xs ys ∙ ap (λ b. b && list_all (nat_eq x) ys) h

module _ (names : List (List ℕ)) where
  along_end : (name : List ℕ) (row : List BlockCost) (part : BlockCost) → tagged_along name (row ++ part ∷ []) ≡ tagged_along name row ++ tagged_in name part.0
  along_end name row part =
      flat_parts (λ (p : BlockCost). tagged_in name p.0) row (part ∷ []) ∙ ap (λ l. tagged_along name row ++ l) (append-nil (tagged_in name part.0))

  -- a path block may follow a row where the longer row is joined
  joins_is : (row : List BlockCost) → is_joined names row ≡ true → (part : BlockCost) → is_joined names (row ++ part ∷ []) ≡ joins names row part.0
  joins_is row h part =
      all_alike (λ name. all_same nat_eq (tagged_along name (row ++ part ∷ []))) (λ name. are_as (first_of (tagged_along name row)) (tagged_in name part.0)) names
      (λ name k.
      ap (all_same nat_eq) (along_end name row part)
      ∙ same_behind (tagged_along name row) (tagged_in name part.0) (each_of (λ name. all_same nat_eq (tagged_along name row)) names h name k))

  joined_shorter : (xs ys : List BlockCost) → is_joined names (xs ++ ys) ≡ true → is_joined names xs ≡ true
  joined_shorter xs ys h =
      all_from (λ name. all_same nat_eq (tagged_along name xs)) names
      (λ name k.
      same_shorter nat_eq (tagged_along name xs) (tagged_along name ys)
      (sym (ap (all_same nat_eq) (flat_parts (λ (p : BlockCost). tagged_in name p.0) xs ys))
      ∙ each_of (λ name. all_same nat_eq (tagged_along name (xs ++ ys))) names h name k))

  extended_is : (list row : List BlockCost) → is_joined names row ≡ true → filter (is_joined names) (map (λ part. row ++ part ∷ []) list) ≡ extended names list row
  extended_is list row h =
      filter_of_map (is_joined names) (λ part. row ++ part ∷ []) list
      ∙ ap (map (λ part. row ++ part ∷ [])) (same_filter (λ part. is_joined names (row ++ part ∷ [])) (λ part. joins names row part.0) (joins_is row h) list)

  -- the rows with one list more are those that are there, followed by what may follow them
  pub next_rows : (lists : List (List BlockCost)) (list : List BlockCost) → flat_map (extended names list) (joined names lists) ≡ joined names (lists ++ list ∷ [])
  next_rows lists list =
      same_flat_in (extended names list) (λ row. filter (is_joined names) (map (λ part. row ++ part ∷ []) list)) (joined names lists)
      (λ row k. sym (extended_is list row (from_filter (is_joined names) row (combinations lists) k).1))
      ∙ sym (kept_end list (is_joined names) joined_shorter lists)

  none_joined : (names : List (List ℕ)) → is_joined names [] ≡ true
  none_joined [] = refl
  none_joined (n ∷ ns) = none_joined ns

  -- of no lists there is one row, that of no path blocks
  pub first_row : joined names [] ≡ [] ∷ []
  first_row = ap (λ b. cond b ([] ∷ []) []) (none_joined names)

-- one list more is taken
pub take_end : {X : Type 0} (xs : List X) (i : ℕ) (d : X) → i < length xs → take (i + 1) xs ≡ take i xs ++ get_or xs i d ∷ []
take_end [] i d h = absurd (omega arith)
take_end (x ∷ xs) zero d h = refl
take_end (x ∷ xs) (suc i) d h = let e : suc i + 1 ≡ suc (i + 1) = omega arith in ap (λ k. take k (x ∷ xs)) e ∙ ap (λ l. x ∷ l) (take_end xs i d (omega arith))

tagged_none : (name : List ℕ) (ts : List Tags) → tagged {X = ℕ} name ts [] ≡ []
tagged_none name [] = refl
tagged_none name (t ∷ ts) = refl

-- what is tagged from a place on
module _ (name : List ℕ) (ts : List Tags) (xs : List ℕ) (i : ℕ) where
  abbrev from_here : List ℕ
  from_here = tagged name (drop i ts) (drop i xs)

  abbrev from_next : List ℕ
  from_next = tagged name (drop (i + 1) ts) (drop (i + 1) xs)

  pub tagged_out : length xs ≤ i → from_here ≡ []
  tagged_out h = ap (tagged name (drop i ts)) (drop_all i xs h) ∙ tagged_none name (drop i ts)

  module _ (t : Tags) (here : i < length ts) (there : i < length xs) (at : t ≡ get_or ts i t) where
    tagged_at : (x : ℕ) → from_here ≡ cond (list_any (bytes_eq name) t.names) (get_or xs i x ∷ from_next) from_next
    tagged_at x =
        ap₂ (tagged name) (drop_more ts i t here) (drop_more xs i x there)
        ∙ ap (λ (u : Tags). cond (list_any (bytes_eq name) u.names) (get_or xs i x ∷ from_next) from_next) (sym at)

    pub tagged_hit : (x : ℕ) → list_any (bytes_eq name) t.names ≡ true → from_here ≡ get_or xs i x ∷ from_next
    tagged_hit x h = tagged_at x ∙ ap (λ b. cond b (get_or xs i x ∷ from_next) from_next) h

    pub tagged_miss : list_any (bytes_eq name) t.names ≡ false → from_here ≡ from_next
    tagged_miss h = tagged_at 0 ∙ ap (λ b. cond b (get_or xs i 0 ∷ from_next) from_next) h

first_there : (xs ys : List ℕ) (x : ℕ) → first_of xs ≡ Some x → first_of (xs ++ ys) ≡ Some x
first_there [] ys x h = absurd (true≢false (ap (λ (o : Option ℕ). elim o as (λ _. Bool) [ None ↦ true | Some z ↦ false ]) h))
first_there (z ∷ xs) ys x h = h

first_not_there : (xs ys : List ℕ) → first_of xs ≡ None → first_of (xs ++ ys) ≡ first_of ys
first_not_there [] ys h = refl
first_not_there (z ∷ xs) ys h = absurd (true≢false (sym (ap (λ (o : Option ℕ). elim o as (λ _. Bool) [ None ↦ true | Some z ↦ false ]) h)))

-- what is tagged in a row from a path block on
module _ (name : List ℕ) (row : List Costed) (i : ℕ) (part : Costed) (here : i < length row) (at : part ≡ get_or row i part) where
  along_at : tagged_along name (map seen (drop i row)) ≡ tagged_in name part.block.now ++ tagged_along name (map seen (drop (i + 1) row))
  along_at =
      ap (λ l. tagged_along name (map seen l)) (drop_more row i part here)
      ∙ ap (λ (p : Costed). tagged_in name p.block.now ++ tagged_along name (map seen (drop (i + 1) row))) (sym at)

  pub held_here : (x : ℕ) → first_of (tagged_in name part.block.now) ≡ Some x → first_of (tagged_along name (map seen (drop i row))) ≡ Some x
  held_here x h = ap first_of along_at ∙ first_there (tagged_in name part.block.now) (tagged_along name (map seen (drop (i + 1) row))) x h

  pub held_later : first_of (tagged_in name part.block.now) ≡ None → first_of (tagged_along name (map seen (drop i row)))
      ≡ first_of (tagged_along name (map seen (drop (i + 1) row)))
  held_later h = ap first_of along_at ∙ first_not_there (tagged_in name part.block.now) (tagged_along name (map seen (drop (i + 1) row))) h

-- one that is as the element
pub as_before : (element x : ℕ) (xs : List ℕ) → x ≡ element → list_all (nat_eq element) (x ∷ xs) ≡ list_all (nat_eq element) xs
as_before element x xs h = ap (λ b. b && list_all (nat_eq element) xs) ((Decides-eqb element x).1 (sym h))
