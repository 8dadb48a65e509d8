-- Rows for FROM items that several places share are the rows for all places that agree where places share an item.
use Rattle.std.proofs.Common.{◌≡◌, ℕ, suc, ◌+◌, ◌<◌, Bool, true, false, ◌&&◌, cond, List, [], ◌∷◌, ◌++◌, map, filter, flat_map, length, get_or, refl, sym, ap, ap₂, subst, ◌∙◌}
use Rattle.std.proofs.Common.{inl, inr, nat_eq, arith, append_assoc, Decides}
use Rattle.std.proofs.lemmas.List.{length-append}
use Rattle.std.proofs.Math.ListN.{get_or-append}
use Rattle.std.proofs.Math.Seq.{get_or-append_seam}
use Rattle.std.proofs.lemmas.Bool.{eqb-true}
use Rattle.multisets.specs.Bags.{IsIn, IsWithoutRepeats}
use Rattle.graph_meaning.specs.Lists.{combinations}
use Rattle.path_lowering.proofs.Lists.{flat_map-each, map-each, filter-each, map-again, append-nil, map-flat_map, filter-flat_map, filter-map, filter-and}

module _ {X : Type 0} (same : X → X → Bool) (decides : (x y : X) → Decides (same x y) (x ≡ y)) (d : X) where
  -- the number of a place's item, and the rows of its table
  abbrev pub Place : Type 0
  Place = ℕ × List X

  -- the tables of the items, where the first ones are there already
  abbrev pub item_tables : ℕ → List Place → List (List X)
  item_tables next [] = []
  item_tables next (place ∷ places) = cond (nat_eq place.0 next) (place.1 ∷ item_tables (suc next) places) (item_tables next places)

  -- whether rows for places agree where places share an item
  abbrev pub agrees : List X → List Place → List X → Bool
  agrees chosen [] rows = true
  agrees chosen (place ∷ places) [] = true
  agrees chosen (place ∷ places) (row ∷ rows) =
      cond (nat_eq place.0 (length chosen)) (agrees (chosen ++ row ∷ []) places rows) (same (get_or chosen place.0 d) row && agrees chosen places rows)

  -- a place begins the next item, or has the table of an earlier one
  abbrev pub IsInOrder : List (List X) → List Place → Type 0
  IsInOrder seen [] = Unit {0}
  IsInOrder seen (place ∷ places) =
      elim (nat_eq place.0 (length seen)) as (λ b. Type 0)
      [ true ↦ IsInOrder (seen ++ place.1 ∷ []) places | false ↦ (place.0 < length seen) × (get_or seen place.0 [] ≡ place.1) × IsInOrder seen places ]

  -- the row of each place
  abbrev pub spread : List X → List Place → List X → List X
  spread chosen places new = map (λ place. get_or (chosen ++ new) place.0 d) places

  -- rows of the tables of some items
  pub record AreOf (chosen : List X) (seen : List (List X)) : Type 0 where
    pub many : length chosen ≡ length seen
    pub each : (k : ℕ) → k < length seen → IsIn (get_or chosen k d) (get_or seen k [])

  none_left : {B : Type 0} (f : X → List B) (c : X) (xs : List X) → (IsIn c xs → ⊥) → flat_map (λ r. cond (same c r) (f r) []) xs ≡ []
  none_left f c [] none = refl
  none_left f c (x ∷ xs) none = go (same c x) refl (none_left f c xs (λ k. none (inr k)))
    where
      go : (b : Bool) → same c x ≡ b → flat_map (λ r. cond (same c r) (f r) []) xs ≡ [] → cond b (f x) [] ++ flat_map (λ r. cond (same c r) (f r) []) xs ≡ []
      go true e more = absurd (none (inl (sym ((decides c x).0 e))))
      go false e more = more

  -- of rows that differ one is the row
  one_match : {B : Type 0} (f : X → List B) (c : X) (xs : List X) → IsWithoutRepeats xs → IsIn c xs → flat_map (λ r. cond (same c r) (f r) []) xs ≡ f c
  one_match f c [] once h = absurd h
  one_match f c (x ∷ xs) once (inl e) =
      ap₂ (λ b l. cond b (f x) [] ++ l) ((decides c x).1 (sym e)) (none_left f c xs (λ k. once.0 (subst (λ z. IsIn z xs) (sym e) k))) ∙ append-nil (f x) ∙ ap f e
  one_match f c (x ∷ xs) once (inr h) = go (same c x) refl (one_match f c xs once.1 h)
    where
      go : (b : Bool) → same c x ≡ b → flat_map (λ r. cond (same c r) (f r) []) xs ≡ f c → cond b (f x) [] ++ flat_map (λ r. cond (same c r) (f r) []) xs ≡ f c
      go true e more = absurd (once.0 (subst (λ z. IsIn z xs) ((decides c x).0 e) h))
      go false e more = more

  longer : (chosen : List X) (seen : List (List X)) → AreOf chosen seen → (row : X) (table : List X) → IsIn row table → AreOf (chosen ++ row ∷ []) (seen ++ table ∷ [])
  longer chosen seen of row table h = record {
    many = length-append chosen (row ∷ []) ∙ ap (λ n. n + 1) of.many ∙ sym (length-append seen (table ∷ []));
    each = λ k below. at k (nat_eq k (length seen)) refl below;
  }
    where
      at : (k : ℕ) (b : Bool) → nat_eq k (length seen) ≡ b → k < length (seen ++ table ∷ []) → IsIn (get_or (chosen ++ row ∷ []) k d) (get_or (seen ++ table ∷ []) k [])
      at k true e below =
          let p : k ≡ length seen = eqb-true _ _ e in
          let q : k ≡ length chosen = p ∙ sym of.many in
          let left : get_or (chosen ++ row ∷ []) k d ≡ row = ap (λ n. get_or (chosen ++ row ∷ []) n d) q ∙ get_or-append_seam chosen row [] d in
          let right : get_or (seen ++ table ∷ []) k [] ≡ table = ap (λ n. get_or (seen ++ table ∷ []) n []) p ∙ get_or-append_seam seen table [] [] in
          subst (λ r. IsIn r (get_or (seen ++ table ∷ []) k [])) (sym left) (subst (IsIn row) (sym right) h)
      at k false e below =
          let size : length (seen ++ table ∷ []) ≡ length seen + 1 = length-append seen (table ∷ []) in
          let less : k < length seen = grind arith in
          let less_too : k < length chosen = omega (arith, of.many) in
          let left : get_or (chosen ++ row ∷ []) k d ≡ get_or chosen k d = get_or-append chosen (row ∷ []) d k less_too in
          let right : get_or (seen ++ table ∷ []) k [] ≡ get_or seen k [] = get_or-append seen (table ∷ []) [] k less in
          subst (λ r. IsIn r (get_or (seen ++ table ∷ []) k [])) (sym left) (subst (IsIn (get_or chosen k d)) (sym right) (of.each k less))

  module _ (place : Place) (places : List Place) (chosen : List X) where
    abbrev own : X
    own = get_or chosen place.0 d

    abbrev rest_rows : List (List X)
    rest_rows = combinations (map (λ p. p.1) places)

    -- the place begins an item: a row for it is chosen
    new_step : nat_eq place.0 (length chosen) ≡ true
        → ((row : X) → IsIn row place.1 → map (spread (chosen ++ row ∷ []) places) (combinations (item_tables (length (chosen ++ row ∷ [])) places))
        ≡ filter (agrees (chosen ++ row ∷ []) places) rest_rows)
        → map (spread chosen (place ∷ places)) (combinations (item_tables (length chosen) (place ∷ places)))
        ≡ filter (agrees chosen (place ∷ places)) (flat_map (λ x. map (λ rest. x ∷ rest) rest_rows) place.1)
    new_step e more =
        ap (λ b. map (spread chosen (place ∷ places)) (combinations (cond b (place.1 ∷ item_tables (suc (length chosen)) places) (item_tables (length chosen) places)))) e
        ∙ map-flat_map (spread chosen (place ∷ places)) (λ x. map (λ rest. x ∷ rest) (combinations (item_tables (suc (length chosen)) places))) place.1
        ∙ flat_map-each _ _ place.1 (λ row h. left row ∙ ap (map (λ rest. row ∷ rest)) (more row h) ∙ sym (right row))
        ∙ sym (filter-flat_map (agrees chosen (place ∷ places)) (λ x. map (λ rest. x ∷ rest) rest_rows) place.1)
      where
        grown : (row : X) → length (chosen ++ row ∷ []) ≡ suc (length chosen)
        grown row = length-append chosen (row ∷ []) ∙ omega arith

        begun : (row : X) (new : List X) → get_or (chosen ++ row ∷ new) place.0 d ≡ row
        begun row new = ap (λ n. get_or (chosen ++ row ∷ new) n d) (eqb-true _ _ e) ∙ get_or-append_seam chosen row new d

        left : (row : X) → map (spread chosen (place ∷ places)) (map (λ rest. row ∷ rest) (combinations (item_tables (suc (length chosen)) places)))
            ≡ map (λ rest. row ∷ rest) (map (spread (chosen ++ row ∷ []) places) (combinations (item_tables (length (chosen ++ row ∷ [])) places)))
        left row =
            map-again (spread chosen (place ∷ places)) (λ rest. row ∷ rest) (combinations (item_tables (suc (length chosen)) places))
            ∙ map-each _ _ (combinations (item_tables (suc (length chosen)) places)) (λ new h. ap₂ (λ x xs. x ∷ xs) (begun row new)
            (ap (λ l. map (λ p. get_or l p.0 d) places) (sym (append_assoc chosen (row ∷ []) new))))
            ∙ sym (map-again (λ rest. row ∷ rest) (spread (chosen ++ row ∷ []) places) (combinations (item_tables (suc (length chosen)) places)))
            ∙ ap (λ n. map (λ rest. row ∷ rest) (map (spread (chosen ++ row ∷ []) places) (combinations (item_tables n places)))) (sym (grown row))

        right : (row : X) → filter (agrees chosen (place ∷ places)) (map (λ rest. row ∷ rest) rest_rows)
            ≡ map (λ rest. row ∷ rest) (filter (agrees (chosen ++ row ∷ []) places) rest_rows)
        right row =
            filter-map (agrees chosen (place ∷ places)) (λ rest. row ∷ rest) rest_rows
            ∙ ap (map (λ rest. row ∷ rest)) (filter-each _ _ rest_rows
            (λ rows h. ap (λ b. cond b (agrees (chosen ++ row ∷ []) places rows) (same (get_or chosen place.0 d) row && agrees chosen places rows)) e))

    -- the place has the row of an item that is there
    old_step : nat_eq place.0 (length chosen) ≡ false → place.0 < length chosen → IsWithoutRepeats place.1 → IsIn (get_or chosen place.0 d) place.1
        → map (spread chosen places) (combinations (item_tables (length chosen) places)) ≡ filter (agrees chosen places) rest_rows
        → map (spread chosen (place ∷ places)) (combinations (item_tables (length chosen) (place ∷ places)))
        ≡ filter (agrees chosen (place ∷ places)) (flat_map (λ x. map (λ rest. x ∷ rest) rest_rows) place.1)
    old_step e below once there more =
        ap (λ b. map (spread chosen (place ∷ places)) (combinations (cond b (place.1 ∷ item_tables (suc (length chosen)) places) (item_tables (length chosen) places)))) e
        ∙ map-each _ _ (combinations (item_tables (length chosen) places)) (λ new h. ap (λ x. x ∷ spread chosen places new) (get_or-append chosen new d place.0 below))
        ∙ sym (map-again (λ rest. own ∷ rest) (spread chosen places) (combinations (item_tables (length chosen) places)))
        ∙ ap (map (λ rest. own ∷ rest)) more
        ∙ sym (one_match (λ row. map (λ rest. row ∷ rest) (filter (agrees chosen places) rest_rows)) own place.1 once there)
        ∙ sym (filter-flat_map (agrees chosen (place ∷ places)) (λ x. map (λ rest. x ∷ rest) rest_rows) place.1
        ∙ flat_map-each _ _ place.1 (λ row h. right row))
      where
        emptied : (b : Bool) (row : X) (rows : List (List X)) → map (λ rest. row ∷ rest) (cond b rows []) ≡ cond b (map (λ rest. row ∷ rest) rows) []
        emptied true row rows = refl
        emptied false row rows = refl

        right : (row : X) → filter (agrees chosen (place ∷ places)) (map (λ rest. row ∷ rest) rest_rows)
            ≡ cond (same own row) (map (λ rest. row ∷ rest) (filter (agrees chosen places) rest_rows)) []
        right row =
            filter-map (agrees chosen (place ∷ places)) (λ rest. row ∷ rest) rest_rows
            ∙ ap (map (λ rest. row ∷ rest)) (filter-each _ _ rest_rows
            (λ rows h. ap (λ b. cond b (agrees (chosen ++ row ∷ []) places rows) (same own row && agrees chosen places rows)) e)
            ∙ filter-and (same own row) (agrees chosen places) rest_rows)
            ∙ emptied (same own row) row (filter (agrees chosen places) rest_rows)

  pub spread_rows : (places : List Place) → ((place : Place) → IsIn place places → IsWithoutRepeats place.1) → (seen : List (List X)) → IsInOrder seen places
      → (chosen : List X) → AreOf chosen seen
      → map (spread chosen places) (combinations (item_tables (length chosen) places)) ≡ filter (agrees chosen places) (combinations (map (λ place. place.1) places))
  spread_rows [] once seen order chosen of = refl
  spread_rows (place ∷ places) once seen order chosen of =
      go (nat_eq place.0 (length seen)) refl order
      (λ s o c a. spread_rows places (λ p h. once p (inr h)) s o c a)
    where
      go : (b : Bool) → nat_eq place.0 (length seen) ≡ b
          → elim b as (λ b. Type 0) [
            | true ↦ IsInOrder (seen ++ place.1 ∷ []) places
            | false ↦ (place.0 < length seen) × (get_or seen place.0 [] ≡ place.1)
                × IsInOrder seen places
          ]
          → ((s : List (List X)) → IsInOrder s places → (c : List X) → AreOf c s
          → map (spread c places) (combinations (item_tables (length c) places)) ≡ filter (agrees c places) (combinations (map (λ place. place.1) places)))
          → map (spread chosen (place ∷ places)) (combinations (item_tables (length chosen) (place ∷ places)))
          ≡ filter (agrees chosen (place ∷ places)) (combinations (place.1 ∷ map (λ place. place.1) places))
      go true e o more =
          new_step place places chosen (ap (nat_eq place.0) of.many ∙ e)
          (λ row h. more (seen ++ place.1 ∷ []) o (chosen ++ row ∷ []) (longer chosen seen of row place.1 h))
      go false e o more =
          old_step place places chosen (ap (nat_eq place.0) of.many ∙ e) (omega (arith, o.0, of.many)) (once place (inl refl))
          (subst (IsIn (get_or chosen place.0 d)) o.1 (of.each place.0 o.0)) (more seen o.2 chosen of)
