-- Places that share a singleton have one table, and one row where the rows pass.
use Rattle.std.proofs.Common.{◌≡◌, ℕ, Bool, true, false, ◌&&◌, ◌||◌, cond, List, [], ◌∷◌, map, filter, length, refl, sym, ap, ap₂, subst, ◌∙◌, inl, inr, nat_eq, bytes_eq, arith}
use Rattle.std.proofs.Common.{true≢false, Decides}
use Rattle.std.specs.List.{list_any}
use Rattle.std.proofs.lemmas.Bool.{and_parts, eqb-true}
use Rattle.pgq_base.specs.Instances.{RowValues, TableRows, InstanceRows, same_values}
use Rattle.pgq_base.proofs.ValueOrder.{same_values_decides}
use Rattle.multisets.specs.Bags.{IsIn, IsWithoutRepeats}
use Rattle.multisets.proofs.Maps.{in_flat_map}
use Rattle.graph_ast.specs.declared.catalog.Catalog.{Catalog}
use Rattle.graph_ast.specs.declared.catalog.Graph.{Graph}
use Rattle.graph_ast.specs.declared.catalog.Element.{Element}
use Rattle.graph_ast.specs.declared.blocks.Tags.{Tags}
use Rattle.graph_ast.specs.Catalogs.{IsValidElement}
use Rattle.graph_ast.specs.Fits.{Fits}
use Rattle.graph_meaning.specs.Lists.{agree, combinations, all_same, tagged}
use Rattle.graph_meaning.specs.View.{same_element, rows_of}
use Rattle.path_lowering.specs.declared.spots.Spot.{Spot}
use Rattle.path_lowering.specs.Spots.{element_of_kind, element_at, of_row, same_kind}
use Rattle.path_lowering.specs.Blocks.{share_name, plan_after, plan_of}
use Rattle.path_lowering.specs.Selects.{place_elements}
use Rattle.path_lowering.proofs.Facts.{key_tells, in_map}
use Rattle.path_lowering.proofs.Lists.{map-again}
use Rattle.path_lowering.proofs.PlacingLemmas.{each_of}
use Rattle.path_lowering.proofs.AgreeLemmas.{pair_same}
use Rattle.path_lowering.proofs.SharingLemmas.{kind_same, same_of_kind}
use Rattle.path_lowering.proofs.ItemLemmas.{agrees, IsInOrder}
use Rattle.path_lowering.proofs.PlanLemmas.{Entry, in_order, all_agree}

-- a place with its tags
pub record Full : Type 0 where
  pub tags : Tags
  pub spot : Spot

abbrev tags_of : List Full → List Tags
tags_of fulls = map (λ f. f.tags) fulls

abbrev spots_of : List Full → List Spot
spots_of fulls = map (λ f. f.spot) fulls

abbrev pub fulls_of : List Tags → List Spot → List Full
fulls_of [] spots = []
fulls_of (t ∷ ts) [] = []
fulls_of (t ∷ ts) (s ∷ ss) = record { tags = t; spot = s } ∷ fulls_of ts ss

pub fulls_tags : (tags : List Tags) (spots : List Spot) → length tags ≡ length spots → map (λ f. f.tags) (fulls_of tags spots) ≡ tags
fulls_tags [] spots h = refl
fulls_tags (t ∷ ts) [] h = absurd (omega arith)
fulls_tags (t ∷ ts) (s ∷ ss) h = ap (λ l. t ∷ l) (fulls_tags ts ss (omega arith))

pub fulls_spots : (tags : List Tags) (spots : List Spot) → length tags ≡ length spots → map (λ f. f.spot) (fulls_of tags spots) ≡ spots
fulls_spots [] [] h = refl
fulls_spots [] (s ∷ ss) h = absurd (omega arith)
fulls_spots (t ∷ ts) [] h = absurd (omega arith)
fulls_spots (t ∷ ts) (s ∷ ss) h = ap (λ l. s ∷ l) (fulls_spots ts ss (omega arith))

pub in_mapped : {A B : Type 0} (f : A → B) (y : B) (xs : List A) → IsIn y (map f xs) → (x : A) × IsIn x xs × (f x ≡ y)
in_mapped f y [] h = absurd h
in_mapped f y (x ∷ xs) (inl e) = (x, inl refl, e)
in_mapped f y (x ∷ xs) (inr h) = let m = in_mapped f y xs h in (m.0, inr m.1, m.2)

any_found : {X : Type 0} (p : X → Bool) (xs : List X) → list_any p xs ≡ true → (x : X) × IsIn x xs × (p x ≡ true)
any_found p [] h = cc
any_found p (x ∷ xs) h = go (p x) refl h (any_found p xs)
  where
    go : (b : Bool) → p x ≡ b → (b || list_any p xs) ≡ true → (list_any p xs ≡ true → (y : _) × IsIn y xs × (p y ≡ true)) → (y : _) × IsIn y (x ∷ xs) × (p y ≡ true)
    go true e k more = (x, inl refl, e)
    go false e k more = let m = more k in (m.0, inr m.1, m.2)

same_all : {X : Type 0} (same : X → X → Bool) → ((x y : X) → same x y ≡ true → x ≡ y) → (xs : List X) → all_same same xs ≡ true → (x y : X) → IsIn x xs → IsIn y xs → x ≡ y
same_all same tells [] h x y p q = absurd p
same_all same tells (z ∷ zs) h x y p q = sym (at x p) ∙ at y q
  where
    at : (w : _) → IsIn w (z ∷ zs) → z ≡ w
    at w (inl e) = e
    at w (inr k) = tells z w (each_of (same z) zs h w k)

tagged_there : {X : Type 0} (g : Full → X) (name : List ℕ) (fulls : List Full) (f : Full) → IsIn f fulls → list_any (bytes_eq name) f.tags.names ≡ true
    → IsIn (g f) (tagged name (tags_of fulls) (map g fulls))
tagged_there g name [] f h k = absurd h
tagged_there g name (q ∷ qs) f h k = go (list_any (bytes_eq name) q.tags.names) refl h (λ m. tagged_there g name qs f m k)
  where
    go : (b : Bool) → list_any (bytes_eq name) q.tags.names ≡ b → IsIn f (q ∷ qs) → (IsIn f qs → IsIn (g f) (tagged name (tags_of qs) (map g qs)))
        → IsIn (g f) (cond b (g q ∷ tagged name (tags_of qs) (map g qs)) (tagged name (tags_of qs) (map g qs)))
    go true e (inl s) more = inl (ap g s)
    go true e (inr m) more = inr (more m)
    go false e (inl s) more = absurd (true≢false (sym k ∙ ap (λ x. list_any (bytes_eq name) x.tags.names) (sym s) ∙ e))
    go false e (inr m) more = more m

-- where kept values do not repeat, and all are kept, the members do not repeat
pub once_before : {A B : Type 0} (p : B → Bool) (f : A → B) (xs : List A) → ((x : A) → IsIn x xs → p (f x) ≡ true) → IsWithoutRepeats (filter p (map f xs)) → IsWithoutRepeats xs
once_before p f [] all h = tt
once_before p f (x ∷ xs) all h =
    let k : IsWithoutRepeats (f x ∷ filter p (map f xs)) = subst (λ b. IsWithoutRepeats (cond b (f x ∷ filter p (map f xs)) (filter p (map f xs)))) (all x (inl refl)) h in
    (λ m. k.0 (Rattle.path_lowering.proofs.PlacingLemmas.kept_in p (map f xs) (f x) (in_map f x xs m) (all x (inl refl))), once_before p f xs (λ y m. all y (inr m)) k.1)

-- a row for each place
abbrev Rowed : Type 0
Rowed = Full × RowValues

abbrev rowed_of : List Full → List RowValues → List Rowed
rowed_of [] rows = []
rowed_of (f ∷ fs) [] = []
rowed_of (f ∷ fs) (r ∷ rs) = (f, r) ∷ rowed_of fs rs

module _ (graph : Graph) (instance : InstanceRows) (names : List (List ℕ)) (fulls : List Full)
    (numbers : agree nat_eq names (tags_of fulls) (map (λ f. f.spot.element) fulls) ≡ true) (kinds : agree same_kind names (tags_of fulls) (map (λ f. f.spot.kind) fulls)
    ≡ true) where
  shared_name : (f g : Full) → share_name names f.tags g.tags ≡ true → (name : List ℕ) × IsIn name names × (list_any (bytes_eq name) f.tags.names ≡ true)
      × (list_any (bytes_eq name) g.tags.names ≡ true)
  shared_name f g h = let m = any_found (λ name. list_any (bytes_eq name) f.tags.names && list_any (bytes_eq name) g.tags.names) names h in let p = and_parts _ _ m.2 in
      (m.0, m.1, p.0, p.1)

  shared_number : (f g : Full) → IsIn f fulls → IsIn g fulls → share_name names f.tags g.tags ≡ true → f.spot.element ≡ g.spot.element
  shared_number f g p q h =
      let n = shared_name f g h in
      same_all nat_eq eqb-true (tagged n.0 (tags_of fulls) (map (λ x. x.spot.element) fulls)) (each_of _ names numbers n.0 n.1) f.spot.element g.spot.element
      (tagged_there (λ x. x.spot.element) n.0 fulls f p n.2) (tagged_there (λ x. x.spot.element) n.0 fulls g q n.3)

  shared_kind : (f g : Full) → IsIn f fulls → IsIn g fulls → share_name names f.tags g.tags ≡ true → f.spot.kind ≡ g.spot.kind
  shared_kind f g p q h =
      let n = shared_name f g h in
      same_all same_kind kind_same (tagged n.0 (tags_of fulls) (map (λ x. x.spot.kind) fulls)) (each_of _ names kinds n.0 n.1) f.spot.kind g.spot.kind
      (tagged_there (λ x. x.spot.kind) n.0 fulls f p n.2) (tagged_there (λ x. x.spot.kind) n.0 fulls g q n.3)

  shared_element : (f g : Full) → IsIn f fulls → IsIn g fulls → share_name names f.tags g.tags ≡ true → element_at graph f.spot ≡ element_at graph g.spot
  shared_element f g p q h = ap₂ (element_of_kind graph) (shared_kind f g p q h) (shared_number f g p q h)

  module _ (planned : map (λ f. f.spot.item) fulls ≡ plan_of names (tags_of fulls)) where
    -- the places are in order, by whatever their elements' tables have
    module _ {X : Type 0} (same : X → X → Bool) (decides : (x y : X) → Decides (same x y) (x ≡ y)) (d : X) (table : Element → List X) where
      abbrev entry : Full → Entry same decides d names
      entry f = record { tags = f.tags; item = f.spot.item; table = table (element_at graph f.spot); row = d }

      pub places_in_order : IsInOrder same decides d [] (map (λ spot. (spot.item, table (element_at graph spot))) (spots_of fulls))
      places_in_order =
          subst (IsInOrder same decides d []) (map-again (λ e. (e.item, e.table)) entry fulls
          ∙ sym (map-again (λ spot. (spot.item, table (element_at graph spot))) (λ f. f.spot) fulls))
          (in_order same decides d names (map entry fulls) share (map entry fulls) [] (λ e h. h) (λ e h. absurd h) [] (λ q h. absurd h)
          (map-again (λ e. e.item) entry fulls ∙ planned ∙ ap (plan_after names [] 0) (sym (map-again (λ e. e.tags) entry fulls))))
        where
          share : (p q : Entry same decides d names) → IsIn p (map entry fulls) → IsIn q (map entry fulls) → share_name names p.tags q.tags ≡ true → p.table ≡ q.table
          share p q h k s =
              let f = in_mapped entry p fulls h in
              let g = in_mapped entry q fulls k in
              ap (λ e. e.table) (sym f.2)
              ∙ ap table (shared_element f.0 g.0 f.1 g.1 (ap₂ (share_name names) (ap (λ e. e.tags) f.2) (ap (λ e. e.tags) g.2) ∙ s))
              ∙ ap (λ e. e.table) g.2

    module _ (catalog : Catalog) (fits : Fits catalog instance) (element_ok : (f : Full) → IsIn f fulls → IsValidElement catalog (element_at graph f.spot)) where
      abbrev rows_for : Spot → TableRows
      rows_for spot = rows_of instance (element_at graph spot)

      tagged_rowed : (name : List ℕ) (some : List Full) (rows : List RowValues) (r : Rowed) → IsIn r (rowed_of some rows) → list_any (bytes_eq name) r.0.tags.names ≡ true
          → IsIn (of_row graph r.0.spot.kind r.0.spot.element r.1) (tagged name (tags_of some) (place_elements graph (spots_of some) rows))
      tagged_rowed name [] rows r h k = absurd h
      tagged_rowed name (f ∷ fs) [] r h k = absurd h
      tagged_rowed name (f ∷ fs) (row ∷ rows) r h k = go (list_any (bytes_eq name) f.tags.names) refl h (λ m. tagged_rowed name fs rows r m k)
        where
          go : (b : Bool) → list_any (bytes_eq name) f.tags.names ≡ b → IsIn r ((f, row) ∷ rowed_of fs rows)
              → (IsIn r (rowed_of fs rows) → IsIn (of_row graph r.0.spot.kind r.0.spot.element r.1) (tagged name (tags_of fs) (place_elements graph (spots_of fs) rows)))
              → IsIn (of_row graph r.0.spot.kind r.0.spot.element r.1)
              (cond b (of_row graph f.spot.kind f.spot.element row ∷ tagged name (tags_of fs) (place_elements graph (spots_of fs) rows))
              (tagged name (tags_of fs) (place_elements graph (spots_of fs) rows)))
          go true e (inl s) more = inl (ap (λ x. of_row graph x.0.spot.kind x.0.spot.element x.1) s)
          go true e (inr m) more = inr (more m)
          go false e (inl s) more = absurd (true≢false (sym k ∙ ap (λ x. list_any (bytes_eq name) x.0.tags.names) (sym s) ∙ e))
          go false e (inr m) more = more m

      rowed_full : (some : List Full) (rows : List RowValues) (r : Rowed) → IsIn r (rowed_of some rows) → IsIn r.0 some
      rowed_full [] rows r h = absurd h
      rowed_full (f ∷ fs) [] r h = absurd h
      rowed_full (f ∷ fs) (row ∷ rows) r (inl e) = inl (ap (λ x. x.0) e)
      rowed_full (f ∷ fs) (row ∷ rows) r (inr h) = inr (rowed_full fs rows r h)

      rowed_member : (some : List Full) (rows : List RowValues) → IsIn rows (combinations (map rows_for (spots_of some))) → (r : Rowed) → IsIn r (rowed_of some rows)
          → IsIn r.1 (rows_for r.0.spot)
      rowed_member [] rows h r k = absurd k
      rowed_member (f ∷ fs) rows h r k =
          let m = in_flat_map (λ x. map (λ rest. x ∷ rest) (combinations (map rows_for (spots_of fs)))) rows (rows_for f.spot) h in
          let n = in_mapped (λ rest. m.0 ∷ rest) rows (combinations (map rows_for (spots_of fs))) m.2 in
          elim (subst (λ l. IsIn r (rowed_of (f ∷ fs) l)) (sym n.2) k) [ inl e ↦ subst (λ x. IsIn x.1 (rows_for x.0.spot)) e m.1 | inr l ↦ rowed_member fs n.0 n.1 r l ]

      shared_row : (rows : List RowValues) → IsIn rows (combinations (map rows_for (spots_of fulls)))
          → agree same_element names (tags_of fulls) (place_elements graph (spots_of fulls) rows) ≡ true
          → (r s : Rowed) → IsIn r (rowed_of fulls rows) → IsIn s (rowed_of fulls rows) → share_name names r.0.tags s.0.tags ≡ true → r.1 ≡ s.1
      shared_row rows chosen all r s p q h =
          let f = rowed_full fulls rows r p in
          let g = rowed_full fulls rows s q in
          let n = shared_name r.0 s.0 h in
          let same : same_element (of_row graph r.0.spot.kind r.0.spot.element r.1) (of_row graph s.0.spot.kind s.0.spot.element s.1) ≡ true =
          pair_same (tagged n.0 (tags_of fulls) (place_elements graph (spots_of fulls) rows)) (each_of _ names all n.0 n.1) _ _ (tagged_rowed n.0 fulls rows r p n.2)
          (tagged_rowed n.0 fulls rows s q n.3) in
          let same_here : same_element (of_row graph r.0.spot.kind r.0.spot.element r.1) (of_row graph r.0.spot.kind r.0.spot.element s.1) ≡ true =
          ap₂ (λ k m. same_element (of_row graph r.0.spot.kind r.0.spot.element r.1) (of_row graph k m s.1)) (shared_kind r.0 s.0 f g h) (shared_number r.0 s.0 f g h) ∙ same in
          key_tells catalog instance fits (element_at graph r.0.spot) (element_ok r.0 f) r.1 s.1 (rowed_member fulls rows chosen r p)
          (subst (λ e. IsIn s.1 (rows_of instance e)) (sym (shared_element r.0 s.0 f g h)) (rowed_member fulls rows chosen s q))
          ((same_values_decides _ _).0 (sym (same_of_kind graph r.0.spot.kind r.0.spot.element r.1 s.1) ∙ same_here))

      abbrev row_entry : Rowed → Entry same_values same_values_decides [] names
      row_entry r = record { tags = r.0.tags; item = r.0.spot.item; table = rows_for r.0.spot; row = r.1 }

      rowed_back : {Y : Type 0} (g : Full → Y) (some : List Full) (rows : List RowValues) → IsIn rows (combinations (map rows_for (spots_of some)))
          → map (λ r. g r.0) (rowed_of some rows) ≡ map g some
      rowed_back g [] rows h = refl
      rowed_back g (f ∷ fs) rows h =
          let m = in_flat_map (λ x. map (λ rest. x ∷ rest) (combinations (map rows_for (spots_of fs)))) rows (rows_for f.spot) h in
          let n = in_mapped (λ rest. m.0 ∷ rest) rows (combinations (map rows_for (spots_of fs))) m.2 in
          ap (λ l. map (λ r. g r.0) (rowed_of (f ∷ fs) l)) (sym n.2) ∙ ap (λ l. g f ∷ l) (rowed_back g fs n.0 n.1)

      rowed_rows : (some : List Full) (rows : List RowValues) → IsIn rows (combinations (map rows_for (spots_of some))) → map (λ r. r.1) (rowed_of some rows) ≡ rows
      rowed_rows [] rows (inl e) = e
      rowed_rows [] rows (inr h) = absurd h
      rowed_rows (f ∷ fs) rows h =
          let m = in_flat_map (λ x. map (λ rest. x ∷ rest) (combinations (map rows_for (spots_of fs)))) rows (rows_for f.spot) h in
          let n = in_mapped (λ rest. m.0 ∷ rest) rows (combinations (map rows_for (spots_of fs))) m.2 in
          ap (λ l. map (λ r. r.1) (rowed_of (f ∷ fs) l)) (sym n.2) ∙ ap (λ l. m.0 ∷ l) (rowed_rows fs n.0 n.1) ∙ n.2

      pub rows_agree : (rows : List RowValues) → IsIn rows (combinations (map rows_for (spots_of fulls)))
          → agree same_element names (tags_of fulls) (place_elements graph (spots_of fulls) rows) ≡ true
          → agrees same_values same_values_decides [] [] (map (λ spot. (spot.item, rows_for spot)) (spots_of fulls)) rows ≡ true
      rows_agree rows chosen all =
          sym (ap₂ (agrees same_values same_values_decides [] [])
          (map-again (λ e. (e.item, e.table)) row_entry (rowed_of fulls rows) ∙ rowed_back (λ f. (f.spot.item, rows_for f.spot)) fulls rows chosen
          ∙ sym (map-again (λ spot. (spot.item, rows_for spot)) (λ f. f.spot) fulls))
          (map-again (λ e. e.row) row_entry (rowed_of fulls rows) ∙ rowed_rows fulls rows chosen))
          ∙ all_agree same_values same_values_decides [] names (map row_entry (rowed_of fulls rows)) share (map row_entry (rowed_of fulls rows)) [] (λ e h. h)
          (λ e h. absurd h) [] (λ q h. absurd h)
          (map-again (λ e. e.item) row_entry (rowed_of fulls rows) ∙ rowed_back (λ f. f.spot.item) fulls rows chosen ∙ planned
          ∙ ap (plan_after names [] 0) (sym (map-again (λ e. e.tags) row_entry (rowed_of fulls rows) ∙ rowed_back (λ f. f.tags) fulls rows chosen)))
        where
          share : (p q : Entry same_values same_values_decides [] names) → IsIn p (map row_entry (rowed_of fulls rows)) → IsIn q (map row_entry (rowed_of fulls rows))
              → share_name names p.tags q.tags ≡ true → p.row ≡ q.row
          share p q h k s =
              let f = in_mapped row_entry p (rowed_of fulls rows) h in
              let g = in_mapped row_entry q (rowed_of fulls rows) k in
              ap (λ e. e.row) (sym f.2)
              ∙ shared_row rows chosen all f.0 g.0 f.1 g.1 (ap₂ (share_name names) (ap (λ e. e.tags) f.2) (ap (λ e. e.tags) g.2) ∙ s)
              ∙ ap (λ e. e.row) g.2
