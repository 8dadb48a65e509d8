-- Members of parts of a list.
use Rattle.std.proofs.Common.{◌≡◌, ℕ, zero, suc, ◌-◌, ◌<◌, ◌≤◌, true, false, List, [], ◌∷◌, length, get_or, take, drop, refl, sym, ap, ap₂, subst, ◌∙◌, inl, inr, arith}
use Rattle.multisets.specs.Bags.{IsIn}
use Rattle.graph_ast.specs.declared.catalog.Graph.{Graph}
use Rattle.graph_meaning.specs.Bindings.{without_last}
use Rattle.path_lowering.specs.declared.spots.Kind.{Kind}
use Rattle.path_lowering.specs.declared.spots.Kind.TheVariants.{Vertex, Edge}
use Rattle.path_lowering.specs.declared.spots.Spot.{Spot}
use Rattle.path_lowering.specs.Spots.{element_of_kind, element_at}
use Rattle.path_lowering.specs.Emitted.{is_edge_spot, is_vertex_spot, edge_spots, vertex_spots}
use Rattle.path_lowering.proofs.Facts.{in_at}
use Rattle.path_lowering.proofs.PlacingLemmas.{in_kept}

pub in_drop : {X : Type 0} (x : X) (xs : List X) (k : ℕ) → IsIn x (drop k xs) → IsIn x xs
in_drop x xs zero h = h
in_drop x [] (suc k) h = h
in_drop x (y ∷ ys) (suc k) h = inr (in_drop x ys k h)

pub in_take : {X : Type 0} (x : X) (xs : List X) (k : ℕ) → IsIn x (take k xs) → IsIn x xs
in_take x xs zero h = absurd h
in_take x [] (suc k) h = absurd h
in_take x (y ∷ ys) (suc k) (inl e) = inl e
in_take x (y ∷ ys) (suc k) (inr h) = inr (in_take x ys k h)

pub in_front : {X : Type 0} (x : X) (xs : List X) → IsIn x (without_last xs) → IsIn x xs
in_front x [] h = absurd h
in_front x (y ∷ []) h = absurd h
in_front x (y ∷ z ∷ zs) (inl e) = inl e
in_front x (y ∷ z ∷ zs) (inr h) = inr (in_front x (z ∷ zs) h)

take_but : {X : Type 0} (xs : List X) (k : ℕ) → length xs ≡ suc k → take k xs ≡ without_last xs
take_but [] k h = absurd (omega arith)
take_but (x ∷ []) zero h = refl
take_but (x ∷ []) (suc k) h = absurd (omega arith)
take_but (x ∷ y ∷ xs) zero h = absurd (omega arith)
take_but (x ∷ y ∷ xs) (suc k) h = ap (λ l. x ∷ l) (take_but (y ∷ xs) k (omega arith))

pub front_is : {X : Type 0} (xs : List X) → 1 ≤ length xs → take (length xs - 1) xs ≡ without_last xs
front_is xs h = take_but xs (length xs - 1) (omega arith)

edge_kind : (k : Kind) → elim k [ Vertex ↦ false | Edge ↦ true ] ≡ true → k ≡ Edge
edge_kind Vertex h = cc
edge_kind Edge h = refl

vertex_kind : (k : Kind) → elim k [ Vertex ↦ true | Edge ↦ false ] ≡ true → k ≡ Vertex
vertex_kind Vertex h = refl
vertex_kind Edge h = cc

pub edge_in : (spots : List Spot) (x : Spot) → IsIn x (edge_spots spots) → IsIn x spots
edge_in spots x h = (in_kept is_edge_spot spots x h).0

pub vertex_in : (spots : List Spot) (x : Spot) → IsIn x (vertex_spots spots) → IsIn x spots
vertex_in spots x h = (in_kept is_vertex_spot spots x h).0

pub edges_alike : (spots : List Spot) (x y : Spot) → IsIn x (edge_spots spots) → IsIn y (edge_spots spots) → x.kind ≡ y.kind
edges_alike spots x y h k = edge_kind x.kind (in_kept is_edge_spot spots x h).1 ∙ sym (edge_kind y.kind (in_kept is_edge_spot spots y k).1)

pub vertices_alike : (spots : List Spot) (x y : Spot) → IsIn x (vertex_spots spots) → IsIn y (vertex_spots spots) → x.kind ≡ y.kind
vertices_alike spots x y h k = vertex_kind x.kind (in_kept is_vertex_spot spots x h).1 ∙ sym (vertex_kind y.kind (in_kept is_vertex_spot spots y k).1)

pub keys_alike : (graph : Graph) (x y : Spot) → x.kind ≡ y.kind → x.element ≡ y.element → length (element_at graph x).key ≡ length (element_at graph y).key
keys_alike graph x y k n = ap₂ (λ a b. length (element_of_kind graph a b).key) k n

pub item_in : {X : Type 0} (xs : List X) (i : ℕ) (x : X) → x ≡ get_or xs i x → i < length xs → IsIn x xs
item_in xs i x is below = subst (λ y. IsIn y xs) (sym is) (in_at xs i x below)
