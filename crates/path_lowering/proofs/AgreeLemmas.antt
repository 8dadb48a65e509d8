-- Places of one singleton that agree over all paths agree along each of them.
use Rattle.std.proofs.Common.{◌≡◌, ℕ, Bool, true, false, cond, List, [], ◌∷◌, ◌++◌, flat_map, length, refl, sym, ap, subst, ◌∙◌, inl, inr, nat_eq, bytes_eq, arith}
use Rattle.std.specs.List.{list_any}
use Rattle.std.proofs.lemmas.Bool.{eqb-true, eq-eqb, and_parts}
use Rattle.pgq_base.specs.Instances.{same_values}
use Rattle.pgq_base.proofs.ValueOrder.{same_values_decides}
use Rattle.multisets.specs.Bags.{IsIn}
use Rattle.multisets.proofs.Members.{in_append}
use Rattle.graph_ast.specs.declared.blocks.Tags.{Tags}
use Rattle.graph_meaning.specs.Lists.{all_same, tagged, agree}
use Rattle.graph_meaning.specs.View.{Identity, GraphElement, AVertex, AnEdge, same_identity, same_element}
use Rattle.path_lowering.proofs.PlacingLemmas.{and_join, each_of, of_each}

identity_joins : (x y z : Identity) → same_identity x y ≡ true → same_identity x z ≡ true → same_identity y z ≡ true
identity_joins x y z p q =
    let a = and_parts (nat_eq x.0 y.0) (same_values x.1 y.1) p in
    let b = and_parts (nat_eq x.0 z.0) (same_values x.1 z.1) q in
    and_join _ _ (eq-eqb _ _ (sym (eqb-true _ _ a.0) ∙ eqb-true _ _ b.0))
    ((same_values_decides y.1 z.1).1 (sym ((same_values_decides x.1 y.1).0 a.1) ∙ (same_values_decides x.1 z.1).0 b.1))

identity_itself : (x : Identity) → same_identity x x ≡ true
identity_itself x = and_join _ _ (eq-eqb x.0 x.0 refl) ((same_values_decides x.1 x.1).1 refl)

pub element_joins : (x y z : GraphElement) → same_element x y ≡ true → same_element x z ≡ true → same_element y z ≡ true
element_joins (AVertex x) (AVertex y) (AVertex z) p q = identity_joins x y z p q
element_joins (AVertex x) (AVertex y) (AnEdge z) p q = cc
element_joins (AVertex x) (AnEdge y) z p q = cc
element_joins (AnEdge x) (AVertex y) z p q = cc
element_joins (AnEdge x) (AnEdge y) (AVertex z) p q = cc
element_joins (AnEdge x) (AnEdge y) (AnEdge z) p q = identity_joins x.identity y.identity z.identity p q

pub element_itself : (x : GraphElement) → same_element x x ≡ true
element_itself (AVertex x) = identity_itself x
element_itself (AnEdge x) = identity_itself x.identity

pub pair_same : (xs : List GraphElement) → all_same same_element xs ≡ true → (x y : GraphElement) → IsIn x xs → IsIn y xs → same_element x y ≡ true
pair_same [] h x y p q = absurd p
pair_same (z ∷ zs) h x y p q = element_joins z x y (at x p) (at y q)
  where
    at : (w : GraphElement) → IsIn w (z ∷ zs) → same_element z w ≡ true
    at w (inl e) = subst (λ v. same_element z v ≡ true) e (element_itself z)
    at w (inr k) = each_of (same_element z) zs h w k

pub same_pairs : (xs : List GraphElement) → ((x y : GraphElement) → IsIn x xs → IsIn y xs → same_element x y ≡ true) → all_same same_element xs ≡ true
same_pairs [] h = refl
same_pairs (z ∷ zs) h = of_each (same_element z) zs (λ w k. h z w (inl refl) (inr k))

pub tagged-append : {X : Type 0} (name : List ℕ) (ts us : List Tags) (xs ys : List X) → length ts ≡ length xs → tagged name (ts ++ us) (xs ++ ys)
    ≡ tagged name ts xs ++ tagged name us ys
tagged-append name [] us [] ys h = refl
tagged-append name [] us (x ∷ xs) ys h = absurd (omega arith)
tagged-append name (t ∷ ts) us [] ys h = absurd (omega arith)
tagged-append name (t ∷ ts) us (x ∷ xs) ys h = go (list_any (bytes_eq name) t.names) (tagged-append name ts us xs ys (omega arith))
  where
    go : (b : Bool) → tagged name (ts ++ us) (xs ++ ys) ≡ tagged name ts xs ++ tagged name us ys
        → cond b (x ∷ tagged name (ts ++ us) (xs ++ ys)) (tagged name (ts ++ us) (xs ++ ys)) ≡ cond b (x ∷ tagged name ts xs) (tagged name ts xs) ++ tagged name us ys
    go true e = ap (λ l. x ∷ l) e
    go false e = e

-- the tags and the elements of some parts
module _ {P : Type 0} (tags_in : P → List Tags) (elements_in : P → List GraphElement) where
  tagged_whole : (name : List ℕ) (parts : List P) → ((p : P) → IsIn p parts → length (tags_in p) ≡ length (elements_in p)) → (p : P) → IsIn p parts
      → (x : GraphElement) → IsIn x (tagged name (tags_in p) (elements_in p)) → IsIn x (tagged name (flat_map tags_in parts) (flat_map elements_in parts))
  tagged_whole name [] many p h x k = absurd h
  tagged_whole name (q ∷ qs) many p (inl e) x k =
      subst (IsIn x) (sym (tagged-append name (tags_in q) (flat_map tags_in qs) (elements_in q) (flat_map elements_in qs) (many q (inl refl))))
      (in_append x _ _ (inl (subst (λ r. IsIn x (tagged name (tags_in r) (elements_in r))) (sym e) k)))
  tagged_whole name (q ∷ qs) many p (inr h) x k =
      subst (IsIn x) (sym (tagged-append name (tags_in q) (flat_map tags_in qs) (elements_in q) (flat_map elements_in qs) (many q (inl refl))))
      (in_append x (tagged name (tags_in q) (elements_in q)) _ (inr (tagged_whole name qs (λ r m. many r (inr m)) p h x k)))

  -- names of one part that agree among all agree in the part
  pub agree_part : (names some : List (List ℕ)) (parts : List P) → ((p : P) → IsIn p parts → length (tags_in p) ≡ length (elements_in p)) → (p : P) → IsIn p parts
      → ((name : List ℕ) → IsIn name some → IsIn name names) → agree same_element names (flat_map tags_in parts) (flat_map elements_in parts) ≡ true
      → agree same_element some (tags_in p) (elements_in p) ≡ true
  agree_part names some parts many p h among all =
      of_each _ some (λ name m. same_pairs (tagged name (tags_in p) (elements_in p)) (λ x y a b.
      pair_same (tagged name (flat_map tags_in parts) (flat_map elements_in parts)) (each_of _ names all name (among name m)) x y
      (tagged_whole name parts many p h x a) (tagged_whole name parts many p h y b)))
