-- Places of a plan begin the next item or have that of an earlier place.
use Rattle.std.proofs.Common.{◌≡◌, ℕ, suc, ◌<◌, Bool, true, false, ◌&&◌, cond, List, [], ◌∷◌, ◌++◌, map, length, get_or, refl, sym, ap, ap₂, subst, ◌∙◌, inl, inr, Option, None}
use Rattle.std.proofs.Common.{Some, nat_eq, arith, Decides}
use Rattle.std.proofs.lemmas.List.{length-append}
use Rattle.std.proofs.Math.ListN.{get_or-append}
use Rattle.std.proofs.Math.Seq.{get_or-append_seam}
use Rattle.std.proofs.lemmas.Bool.{eqb-true, eq-eqb}
use Rattle.multisets.specs.Bags.{IsIn}
use Rattle.multisets.proofs.Members.{in_parts}
use Rattle.graph_ast.specs.declared.blocks.Tags.{Tags}
use Rattle.path_lowering.specs.Blocks.{share_name, shared_item, plan_after}
use Rattle.path_lowering.proofs.Lists.{map-append}
use Rattle.path_lowering.proofs.ItemLemmas.{Place, agrees, IsInOrder}

shared_found : (names : List (List ℕ)) (tags : Tags) (earlier : List (Tags × ℕ)) (item : ℕ) → shared_item names tags earlier ≡ Some item
    → (q : Tags × ℕ) × IsIn q earlier × (share_name names q.0 tags ≡ true) × (q.1 ≡ item)
shared_found names tags [] item h = cc
shared_found names tags (q ∷ qs) item h = go (share_name names q.0 tags) refl (shared_found names tags qs item)
  where
    go : (b : Bool) → share_name names q.0 tags ≡ b → (shared_item names tags qs ≡ Some item → (p : Tags × ℕ) × IsIn p qs × (share_name names p.0 tags ≡ true) × (p.1 ≡ item))
        → (p : Tags × ℕ) × IsIn p (q ∷ qs) × (share_name names p.0 tags ≡ true) × (p.1 ≡ item)
    go true e more = let k : Some q.1 ≡ Some item = sym (ap (λ b. cond b (Some q.1) (shared_item names tags qs)) e) ∙ h in (q, inl refl, e, cc)
    go false e more = let m = more (sym (ap (λ b. cond b (Some q.1) (shared_item names tags qs)) e) ∙ h) in (m.0, inr m.1, m.2, m.3)

not_equal : (a b : ℕ) → a < b → nat_eq a b ≡ false
not_equal a b h = go (nat_eq a b) refl
  where
    go : (c : Bool) → nat_eq a b ≡ c → c ≡ false
    go true e = absurd (let k : a ≡ b = eqb-true a b e in omega (arith, k, h))
    go false e = refl

module _ {X : Type 0} (same : X → X → Bool) (decides : (x y : X) → Decides (same x y) (x ≡ y)) (d : X) (names : List (List ℕ)) where
  -- a place with its tags, its item, the rows of its table and a row
  pub record Entry : Type 0 where
    pub tags : Tags
    pub item : ℕ
    pub table : List X
    pub row : X

  abbrev pub pair_of : Entry → Tags × ℕ
  pair_of e = (e.tags, e.item)

  abbrev pub place_of : Entry → Place same decides d
  place_of e = (e.item, e.table)

  -- what is there for the items of some entries
  abbrev Held : {Y : Type 0} → (Entry → Y) → Y → List Entry → List Y → Type 0
  Held f none earlier ys = (q : Entry) → IsIn q earlier → (q.item < length ys) × (get_or ys q.item none ≡ f q)

  grown : {Y : Type 0} (f : Entry → Y) (none : Y) (earlier : List Entry) (ys : List Y) (e : Entry) → Held f none earlier ys → e.item ≡ length ys
      → Held f none (earlier ++ e ∷ []) (ys ++ f e ∷ [])
  grown f none earlier ys e held is q h =
      elim (in_parts q earlier (e ∷ []) h) [
        | inl k ↦ let old = held q k in (let n = length-append ys (f e ∷ []) in omega (arith, n, old.0), get_or-append ys (f e ∷ []) none q.item old.0 ∙ old.1)
        | inr k ↦ elim k [
          | inl s ↦
              let item : q.item ≡ length ys = ap (λ x. x.item) (sym s) ∙ is in
              (let n = length-append ys (f e ∷ []) in omega (arith, n, item), ap (λ i. get_or (ys ++ f e ∷ []) i none) item ∙ get_or-append_seam ys (f e) [] none ∙ ap f s)
          | inr z ↦ absurd z
        ]
      ]

  kept : {Y : Type 0} (f : Entry → Y) (none : Y) (earlier : List Entry) (ys : List Y) (e : Entry) → Held f none earlier ys → e.item < length ys → get_or ys e.item none ≡ f e
      → Held f none (earlier ++ e ∷ []) ys
  kept f none earlier ys e held below is q h =
      elim (in_parts q earlier (e ∷ []) h) [
        | inl k ↦ held q k
        | inr k ↦ elim k [ inl s ↦ (subst (λ x. x.item < length ys) s below, subst (λ x. get_or ys x.item none ≡ f x) s is) | inr z ↦ absurd z ]
      ]

  -- how the first of some entries has its item
  data Begins (earlier : List Entry) (next : ℕ) (e : Entry) (more : List Entry) : Type 0 where
    New : e.item ≡ next → map (λ x. x.item) more ≡ plan_after names (map pair_of (earlier ++ e ∷ [])) (suc next) (map (λ x. x.tags) more) → Begins earlier next e more
    Old : (q : Entry) → IsIn q earlier → share_name names q.tags e.tags ≡ true → e.item ≡ q.item
        → map (λ x. x.item) more ≡ plan_after names (map pair_of (earlier ++ e ∷ [])) next (map (λ x. x.tags) more) → Begins earlier next e more

  in_pairs : (qs : List Entry) (p : Tags × ℕ) → IsIn p (map pair_of qs) → (q : Entry) × IsIn q qs × (pair_of q ≡ p)
  in_pairs [] p h = absurd h
  in_pairs (q ∷ qs) p (inl e) = (q, inl refl, e)
  in_pairs (q ∷ qs) p (inr h) = let m = in_pairs qs p h in (m.0, inr m.1, m.2)

  begins : (earlier : List Entry) (next : ℕ) (e : Entry) (more : List Entry) → map (λ x. x.item) (e ∷ more)
      ≡ plan_after names (map pair_of earlier) next (map (λ x. x.tags) (e ∷ more)) → Begins earlier next e more
  begins earlier next e more is = go (shared_item names e.tags (map pair_of earlier)) refl is
    where
      go : (o : Option ℕ) → shared_item names e.tags (map pair_of earlier) ≡ o
          → e.item ∷ map (λ x. x.item) more
          ≡ elim o [
            | Some item ↦ item ∷ plan_after names (map pair_of earlier ++ (e.tags, item) ∷ []) next (map (λ x. x.tags) more)
            | None ↦ next ∷ plan_after names (map pair_of earlier ++ (e.tags, next) ∷ []) (suc next) (map (λ x. x.tags) more)
          ]
          → Begins earlier next e more
      go None s k =
          let item : e.item ≡ next = cc in
          let rest : map (λ x. x.item) more ≡ plan_after names (map pair_of earlier ++ (e.tags, next) ∷ []) (suc next) (map (λ x. x.tags) more) = cc in
          New item (rest ∙ ap (λ n. plan_after names (map pair_of earlier ++ (e.tags, n) ∷ []) (suc next) (map (λ x. x.tags) more)) (sym item)
          ∙ ap (λ l. plan_after names l (suc next) (map (λ x. x.tags) more)) (sym (map-append pair_of earlier (e ∷ []))))
      go (Some i) s k =
          let item : e.item ≡ i = cc in
          let rest : map (λ x. x.item) more ≡ plan_after names (map pair_of earlier ++ (e.tags, i) ∷ []) next (map (λ x. x.tags) more) = cc in
          let found = shared_found names e.tags (map pair_of earlier) i s in
          let q = in_pairs earlier found.0 found.1 in
          Old q.0 q.1 (ap (λ p. share_name names p.0 e.tags) q.2 ∙ found.2) (item ∙ sym found.3 ∙ ap (λ p. p.1) (sym q.2))
          (rest ∙ ap (λ n. plan_after names (map pair_of earlier ++ (e.tags, n) ∷ []) next (map (λ x. x.tags) more)) (sym item)
          ∙ ap (λ l. plan_after names l next (map (λ x. x.tags) more)) (sym (map-append pair_of earlier (e ∷ []))))

  module _ (all : List Entry) where
    -- places that share a name have one table, and one row
    abbrev ShareTables : Type 0
    ShareTables = (p q : Entry) → IsIn p all → IsIn q all → share_name names p.tags q.tags ≡ true → p.table ≡ q.table

    abbrev ShareRows : Type 0
    ShareRows = (p q : Entry) → IsIn p all → IsIn q all → share_name names p.tags q.tags ≡ true → p.row ≡ q.row

    abbrev Among : List Entry → Type 0
    Among some = (e : Entry) → IsIn e some → IsIn e all

    longer_among : (earlier : List Entry) (e : Entry) (more : List Entry) → Among earlier → Among (e ∷ more) → Among (earlier ++ e ∷ [])
    longer_among earlier e more p r q h = elim (in_parts q earlier (e ∷ []) h) [ inl k ↦ p q k | inr k ↦ elim k [ inl s ↦ r q (inl s) | inr z ↦ absurd z ] ]

    pub in_order : ShareTables → (todo earlier : List Entry) → Among todo → Among earlier → (seen : List (List X)) → Held (λ e. e.table) [] earlier seen
        → map (λ e. e.item) todo ≡ plan_after names (map pair_of earlier) (length seen) (map (λ e. e.tags) todo) → IsInOrder same decides d seen (map place_of todo)
    in_order share [] earlier t a seen held is = tt
    in_order share (e ∷ more) earlier t a seen held is =
        go (begins earlier (length seen) e more is) (λ s hs k. in_order share more (earlier ++ e ∷ []) (λ q h. t q (inr h)) (longer_among earlier e more a t) s hs k)
      where
        go : Begins earlier (length seen) e more
            → ((s : List (List X)) → Held (λ x. x.table) [] (earlier ++ e ∷ []) s → map (λ x. x.item) more ≡ plan_after names (map pair_of (earlier ++ e ∷ [])) (length s)
            (map (λ x. x.tags) more)
            → IsInOrder same decides d s (map place_of more))
            → IsInOrder same decides d seen (map place_of (e ∷ more))
        go (New item rest) next =
            subst (λ b. elim b as (λ c. Type 0) [
              | true ↦ IsInOrder same decides d (seen ++ e.table ∷ []) (map place_of more)
              | false ↦ (e.item < length seen)
                  × (get_or seen e.item [] ≡ e.table) × IsInOrder same decides d seen (map place_of more)
            ])
            (sym (eq-eqb e.item (length seen) item))
            (next (seen ++ e.table ∷ []) (grown (λ x. x.table) [] earlier seen e held item)
            (rest ∙ ap (λ n. plan_after names (map pair_of (earlier ++ e ∷ [])) n (map (λ x. x.tags) more)) (let n = length-append seen (e.table ∷ []) in omega (arith, n))))
        go (Old q h shared item rest) next =
            let old = held q h in
            let below : e.item < length seen = subst (λ n. n < length seen) (sym item) old.0 in
            let there : get_or seen e.item [] ≡ e.table = ap (λ n. get_or seen n []) item ∙ old.1 ∙ share q e (a q h) (t e (inl refl)) shared in
            subst (λ b. elim b as (λ c. Type 0) [
              | true ↦ IsInOrder same decides d (seen ++ e.table ∷ []) (map place_of more)
              | false ↦ (e.item < length seen)
                  × (get_or seen e.item [] ≡ e.table) × IsInOrder same decides d seen (map place_of more)
            ])
            (sym (not_equal e.item (length seen) below))
            (below, there, next seen (kept (λ x. x.table) [] earlier seen e held below there) rest)

    pub all_agree : ShareRows → (todo earlier : List Entry) → Among todo → Among earlier → (chosen : List X) → Held (λ e. e.row) d earlier chosen
        → map (λ e. e.item) todo ≡ plan_after names (map pair_of earlier) (length chosen) (map (λ e. e.tags) todo)
        → agrees same decides d chosen (map place_of todo) (map (λ e. e.row) todo) ≡ true
    all_agree share [] earlier t a chosen held is = refl
    all_agree share (e ∷ more) earlier t a chosen held is =
        go (begins earlier (length chosen) e more is) (λ s hs k. all_agree share more (earlier ++ e ∷ []) (λ q h. t q (inr h)) (longer_among earlier e more a t) s hs k)
      where
        go : Begins earlier (length chosen) e more
            → ((s : List X) → Held (λ x. x.row) d (earlier ++ e ∷ []) s → map (λ x. x.item) more ≡ plan_after names (map pair_of (earlier ++ e ∷ [])) (length s)
            (map (λ x. x.tags) more)
            → agrees same decides d s (map place_of more) (map (λ x. x.row) more) ≡ true)
            → agrees same decides d chosen (map place_of (e ∷ more)) (map (λ x. x.row) (e ∷ more)) ≡ true
        go (New item rest) next =
            ap (λ b. cond b (agrees same decides d (chosen ++ e.row ∷ []) (map place_of more) (map (λ x. x.row) more))
            (same (get_or chosen e.item d) e.row && agrees same decides d chosen (map place_of more) (map (λ x. x.row) more)))
            (eq-eqb e.item (length chosen) item)
            ∙ next (chosen ++ e.row ∷ []) (grown (λ x. x.row) d earlier chosen e held item)
            (rest ∙ ap (λ n. plan_after names (map pair_of (earlier ++ e ∷ [])) n (map (λ x. x.tags) more)) (let n = length-append chosen (e.row ∷ []) in omega (arith, n)))
        go (Old q h shared item rest) next =
            let old = held q h in
            let below : e.item < length chosen = subst (λ n. n < length chosen) (sym item) old.0 in
            let there : get_or chosen e.item d ≡ e.row = ap (λ n. get_or chosen n d) item ∙ old.1 ∙ share q e (a q h) (t e (inl refl)) shared in
            ap (λ b. cond b (agrees same decides d (chosen ++ e.row ∷ []) (map place_of more) (map (λ x. x.row) more))
            (same (get_or chosen e.item d) e.row && agrees same decides d chosen (map place_of more) (map (λ x. x.row) more)))
            (not_equal e.item (length chosen) below)
            ∙ ap₂ (λ x y. x && y) ((decides (get_or chosen e.item d) e.row).1 there) (next chosen (kept (λ x. x.row) d earlier chosen e held below there) rest)
