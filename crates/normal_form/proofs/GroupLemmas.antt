-- Path blocks that are found by their keys.
use Rattle.std.proofs.Common.{◌≡◌, ℕ, ◌+◌, ◌<◌, inl, inr, Bool, true, false, cond, ◌&&◌, List, [], ◌∷◌, ◌++◌, map, filter, flat_map, drop, get_or, length, append_assoc, nat_eq}
use Rattle.std.proofs.Common.{Option, None, Some, is_some, unwrap_or, Vec, Global, refl, sym, subst, ap, ap₂, ◌∙◌, arith, true≢false}
use Rattle.std.specs.List.{list_all}
use Rattle.std.specs.HashMap.{HashMap, UpdatesBy, get_by}
use Rattle.std.specs.Map.{lookup, IsKeyTest, AreApart, KeepsOthers}
use Rattle.std.specs.Cmp.Lexicographic.{pointwise, bytes_decides, nat_list_eq_equiv}
use Rattle.std.proofs.lemmas.List.{append-nil, drop_more, length-append}
use Rattle.std.proofs.lemmas.Bool.Decides.{Decides-eqb}
use Rattle.multisets.specs.Bags.{IsIn}
use Rattle.graph_meaning.specs.Lists.{first_of}
use Rattle.graph_meaning.proofs.Members.{both_parts, each_of, from_filter, in_map}
use Rattle.normal_form.specs.declared.rows.Costed.{Costed}
use Rattle.normal_form.specs.Rows.{BlockCost, seen, tagged_in, tagged_along, are_as, joins, extended}
use Rattle.normal_form.specs.Groups.{key_of, has_key, has_name, common, found, group_at, AreGroups}
use Rattle.normal_form.proofs.Gathering.{same_map_in, map-parts}
use Rattle.normal_form.proofs.Merging.{there}

apart : (bs cs ks : List ℕ) → pointwise nat_eq bs cs ≡ false → pointwise nat_eq bs ks ≡ true → pointwise nat_eq cs ks ≡ false
apart bs cs ks n y = nat_list_eq_equiv.symm cs ks ∙ sym (nat_list_eq_equiv.congr bs ks cs y) ∙ n

-- a change at one key leaves the others
module _ {V : Type 0} (items : V → List ℕ) where
  abbrev same_items : V → V → Bool
  same_items x y = pointwise nat_eq (items x) (items y)

  abbrev at_items : List ℕ → V → Bool
  at_items bs v = pointwise nat_eq bs (items v)

  kept_others : {X : Type 0} (test : V → Bool) (old new : List (V × X)) → KeepsOthers same_items test old new → (other : V → Bool) → IsKeyTest same_items other
      → AreApart test other
      → lookup other new ≡ lookup other old
  unfolding KeepsOthers
  kept_others test old new h = h

  pub changed_at : {X S : Type 0} (bs : List ℕ) (m n : HashMap V X S) (w : Option X) → UpdatesBy same_items (at_items bs) m n w → (cs : List ℕ)
      → get_by (at_items cs) n ≡ cond (pointwise nat_eq bs cs) w (get_by (at_items cs) m)
  changed_at {X} {S} bs m n w h cs = go (pointwise nat_eq bs cs) refl
    where
      go : (b : Bool) → pointwise nat_eq bs cs ≡ b → get_by (at_items cs) n ≡ cond b w (get_by (at_items cs) m)
      go true e = subst (λ ks. get_by (at_items ks) n ≡ w) ((bytes_decides bs cs).0 e) h.1
      go false e = kept_others (at_items bs) m.entries n.entries h.3 (at_items cs) (λ x y. nat_list_eq_equiv.congr cs (items x) (items y)) (λ k. apart bs cs (items k) e)

abbrev key_items : Vec ℕ Global → List ℕ
key_items key = key.items

-- a group is taken out, made longer, and put back
pub put_behind : {S : Type 0} (bs : List ℕ) (m taken n : HashMap (Vec ℕ Global) (List Costed) S) (before : Option (List Costed)) (group : List Costed) (part : Costed)
    → before ≡ get_by (at_items key_items bs) m → UpdatesBy (same_items key_items) (at_items key_items bs) m taken None
    → map seen group ≡ found before ++ seen part ∷ [] → UpdatesBy (same_items key_items) (at_items key_items bs) taken n (Some group)
    → (cs : List ℕ) → group_at n cs ≡ group_at m cs ++ cond (pointwise nat_eq cs bs) (seen part ∷ []) []
put_behind bs m taken n before group part there out longer back cs =
    ap found (changed_at key_items bs taken n (Some group) back cs) ∙ go (pointwise nat_eq bs cs) refl
  where
    go : (b : Bool) → pointwise nat_eq bs cs ≡ b
        → found (cond b (Some group) (get_by (at_items key_items cs) taken)) ≡ group_at m cs ++ cond (pointwise nat_eq cs bs) (seen part ∷ []) []
    go true e =
        let same : bs ≡ cs = (bytes_decides bs cs).0 e in
        longer
        ∙ ap₂ (λ l b. l ++ cond b (seen part ∷ []) []) (ap found there ∙ ap (group_at m) same) (sym (nat_list_eq_equiv.symm cs bs ∙ e))
    go false e =
        ap found (changed_at key_items bs m taken None out cs ∙ ap (λ b. cond b None (get_by (at_items key_items cs) m)) e)
        ∙ sym (append-nil (group_at m cs))
        ∙ ap (λ b. group_at m cs ++ cond b (seen part ∷ []) []) (sym (nat_list_eq_equiv.symm cs bs ∙ e))

-- what passes both tests is what passes the narrower one
filter_narrow : {X : Type 0} (p q : X → Bool) (xs : List X) → ((x : X) → IsIn x xs → p x ≡ true → q x ≡ true) → filter p (filter q xs) ≡ filter p xs
filter_narrow p q [] h = refl
filter_narrow {X} p q (x ∷ xs) h = go (q x) refl (filter_narrow p q xs (λ y k. h y (inr k)))
  where
    go : (b : Bool) → q x ≡ b → filter p (filter q xs) ≡ filter p xs → filter p (cond b (x ∷ filter q xs) (filter q xs)) ≡ cond (p x) (x ∷ filter p xs) (filter p xs)
    go true e below = ap (λ l. cond (p x) (x ∷ l) l) below
    go false e below = below ∙ no (p x) refl
      where
        no : (c : Bool) → p x ≡ c → filter p xs ≡ cond c (x ∷ filter p xs) (filter p xs)
        no true f = absurd (true≢false (sym (h x (inl refl) f) ∙ e))
        no false f = refl

-- where an element stands first, and others are as it, the first of these is the same
same_first : (o : Option ℕ) (ys : List ℕ) → is_some o ≡ true → is_some (first_of (ys ++ [])) ≡ true → are_as o ys ≡ true → unwrap_or o 0 ≡ unwrap_or (first_of (ys ++ [])) 0
same_first None ys p q h = absurd (true≢false (sym p))
same_first (Some x) [] p q h = absurd (true≢false (sym q))
same_first (Some x) (y ∷ ys) p q h = (Decides-eqb x y).0 (both_parts _ _ h).0

module _ (names : List (List ℕ)) (list : List BlockCost) (rows : List (List BlockCost)) (row : List BlockCost) (among : IsIn row rows) where
  abbrev all : List (List ℕ)
  all = common names list rows

  -- a path block that may follow a row has its key
  key_there : (part : BlockCost) → IsIn part list → joins names row part.0 ≡ true → has_key all (key_of all row) part ≡ true
  key_there part k h =
      (bytes_decides (key_of all row) (key_of all (part ∷ []))).1
      (same_map_in (λ name. unwrap_or (first_of (tagged_along name row)) 0) (λ name. unwrap_or (first_of (tagged_along name (part ∷ []))) 0) all
      (λ name i.
      let of = from_filter (λ name. list_all (has_name name) rows && list_all (λ part. has_name name (part ∷ [])) list) name names i in
      let both = both_parts _ _ of.1 in
      same_first (first_of (tagged_along name row)) (tagged_in name part.0) (each_of (has_name name) rows both.0 row among)
      (each_of (λ part. has_name name (part ∷ [])) list both.1 part k)
      (each_of (λ name. are_as (first_of (tagged_along name row)) (tagged_in name part.0)) names h name of.0)))

  -- so all that may follow the row stand at its key
  pub extended_by : (group : List BlockCost) → group ≡ filter (has_key all (key_of all row)) list → extended names group row ≡ extended names list row
  extended_by group is =
      ap (λ l. map (λ part. row ++ part ∷ []) (filter (λ part. joins names row part.0) l)) is
      ∙ ap (map (λ part. row ++ part ∷ [])) (filter_narrow (λ part. joins names row part.0) (has_key all (key_of all row)) list key_there)

-- one name more is tested
module _ {N : Type 0} (now : N → List ℕ) (p : List ℕ → Bool) (xs : List N) (i : ℕ) (x : N) (here : i < length xs) (at : x ≡ get_or xs i x) (done : List N) (whole : List (List ℕ))
    (known : map now done ++ filter p (map now (drop i xs)) ≡ whole) where
  abbrev rest : List (List ℕ)
  rest = filter p (map now (drop (i + 1) xs))

  rest_at : filter p (map now (drop i xs)) ≡ cond (p (now x)) (now x ∷ rest) rest
  rest_at = ap (λ l. filter p (map now l)) (drop_more xs i x here) ∙ ap (λ y. cond (p (now y)) (now y ∷ rest) rest) (sym at)

  pub taken_in : (longer : List N) → longer ≡ done ++ x ∷ [] → p (now x) ≡ true → map now longer ++ rest ≡ whole
  taken_in longer is h =
      ap (λ l. l ++ rest) (ap (map now) is ∙ map-parts now done (x ∷ [])) ∙ append_assoc (map now done) (now x ∷ []) rest
      ∙ ap (λ l. map now done ++ l) (sym (rest_at ∙ ap (λ b. cond b (now x ∷ rest) rest) h)) ∙ known

  pub left_out : (same : List N) → same ≡ done → p (now x) ≡ false → map now same ++ rest ≡ whole
  left_out same is h = ap₂ (λ l m. map now l ++ m) is (sym (rest_at ∙ ap (λ b. cond b (now x ∷ rest) rest) h)) ∙ known

-- one path block more is put at its key
pub grouped_on : (names : List (List ℕ)) (list : List Costed) (i : ℕ) (part : Costed) → i < length list → part ≡ get_or list i part → (own : List ℕ) → own
    ≡ key_of names (seen part ∷ [])
    → (key : List ℕ) (before after whole : List BlockCost) → after ≡ before ++ cond (pointwise nat_eq key own) (seen part ∷ []) []
    → before ++ filter (has_key names key) (map seen (drop i list)) ≡ whole → after ++ filter (has_key names key) (map seen (drop (i + 1) list)) ≡ whole
grouped_on names list i part here at own own_is key before after whole is known =
    let rest : List BlockCost = filter (has_key names key) (map seen (drop (i + 1) list)) in
    ap (λ l. l ++ rest) (is ∙ ap (λ k. before ++ cond (pointwise nat_eq key k) (seen part ∷ []) []) own_is)
    ∙ append_assoc before (cond (has_key names key (seen part)) (seen part ∷ []) []) rest
    ∙ ap (λ l. before ++ l)
    (elim (has_key names key (seen part)) as (λ b. cond b (seen part ∷ []) [] ++ rest ≡ cond b (seen part ∷ rest) rest) [ true ↦ refl | false ↦ refl ]
    ∙ sym (ap (λ l. filter (has_key names key) (map seen l)) (drop_more list i part here)
    ∙ ap (λ (p : Costed). cond (has_key names key (seen p)) (seen p ∷ rest) rest) (sym at)))
    ∙ known

-- what is found for a row is extended by what the whole list extends it by
pub found_row : {S : Type 0} (names : List (List ℕ)) (list : List Costed) (rows : List (List Costed)) (i : ℕ) (row this : List Costed) → i < length rows → row ≡ get_or rows i row
    → this ≡ row → (shared : List (List ℕ)) → shared ≡ common names (map seen list) (map (map seen) rows)
    → (groups : HashMap (Vec ℕ Global) (List Costed) S) → AreGroups shared (map seen list) groups
    → (key : List ℕ) → key ≡ key_of shared (map seen row) → (group : Option (List Costed)) → group ≡ get_by (λ other. pointwise nat_eq key other.items) groups
    → extended names (found group) (map seen this) ≡ extended names (map seen list) (map seen row)
found_row names list rows i row this here at same shared shared_is groups are key key_is group group_is =
    ap (λ l. extended names (found group) (map seen l)) same
    ∙ extended_by names (map seen list) (map (map seen) rows) (map seen row) (in_map (map seen) row rows (there rows i row here at)) (found group)
    (ap found group_is ∙ are key
    ∙ ap₂ (λ cs k. filter (has_key cs k) (map seen list)) shared_is (key_is ∙ ap (λ cs. key_of cs (map seen row)) shared_is))

-- one row more is extended
module _ (f : List BlockCost → List (List BlockCost)) (rows : List (List Costed)) (i : ℕ) (row : List Costed) (here : i < length rows) (at : row ≡ get_or rows i row)
    (done whole : List (List BlockCost)) (known : done ++ flat_map f (map (map seen) (drop i rows)) ≡ whole) where
  abbrev later : List (List BlockCost)
  later = flat_map f (map (map seen) (drop (i + 1) rows))

  later_at : (done ++ f (map seen row)) ++ later ≡ whole
  later_at =
      append_assoc done (f (map seen row)) later
      ∙ ap (λ l. done ++ l)
      (sym (ap (λ l. flat_map f (map (map seen) l)) (drop_more rows i row here) ∙ ap (λ (r : List Costed). f (map seen r) ++ later) (sym at)))
      ∙ known

  pub row_on : (more : List (List BlockCost)) → more ≡ done ++ f (map seen row) → more ++ later ≡ whole
  row_on more is = ap (λ l. l ++ later) is ∙ later_at

  pub row_over : (most : ℕ) → most < length (done ++ f (map seen row)) → most < length whole
  row_over most h = omega (arith, h, ap length later_at, length-append (done ++ f (map seen row)) later)
