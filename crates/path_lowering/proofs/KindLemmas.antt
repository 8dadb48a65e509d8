-- The places of one singleton have one kind, where a variable names vertices or edges.
use Rattle.std.proofs.Common.{◌≡◌, ℕ, zero, suc, ◌+◌, ◌*◌, ◌≤◌, ◌<◌, Bool, true, false, cond, List, [], ◌∷◌, ◌++◌, map, flat_map, length, replicate, refl, sym, ap, subst, ◌∙◌}
use Rattle.std.proofs.Common.{◌⊎◌, inl, inr, arith, nat_eq, bytes_eq, Option, None, Some, Ordering, Less, Equal, Greater}
use Rattle.std.specs.List.{list_any, AllZip, range_with_len}
use Rattle.std.specs.Ordering.{match_ordering, nat_cmp}
use Rattle.std.specs.Cmp.Lexicographic.{slice_cmp}
use Rattle.std.proofs.lemmas.Slice.Eq.{bytes_eq-Decides}
use Rattle.std.proofs.lemmas.Bool.{eqb-true}
use Rattle.multisets.specs.Bags.{IsIn}
use Rattle.multisets.proofs.Members.{in_append, in_parts}
use Rattle.graph_ast.specs.declared.checked.CheckedPath.{CheckedPath}
use Rattle.graph_ast.specs.declared.checked.CheckedQuery.{CheckedQuery}
use Rattle.graph_ast.specs.declared.checked.Piece.{Piece}
use Rattle.graph_ast.specs.declared.checked.Piece.TheVariants as form
use Rattle.graph_ast.specs.declared.checked.Step.{Step}
use Rattle.graph_ast.specs.declared.checked.Step.TheVariants.{One, Part}
use Rattle.graph_ast.specs.declared.blocks.Tags.{Tags}
use Rattle.graph_ast.specs.declared.blocks.Alternative.{Alternative}
use Rattle.graph_meaning.specs.Lists.{numbers_below, all_same, tagged, agree}
use Rattle.graph_meaning.specs.Choices.{Iteration, PlacedPiece, operand_at, iterations, placed, expansion_of, place_count, choices, counts_of, variables_at, set_of, put_into}
use Rattle.graph_meaning.specs.Choices.{tags_of, pattern_of}
use Rattle.graph_meaning.proofs.Members.{some_of, all_from, from_map, in_flat, from_flat, from_kept, from_below, in_at}
use Rattle.path_lowering.specs.declared.spots.Kind.{Kind}
use Rattle.path_lowering.specs.declared.spots.Kind.TheVariants.{Vertex, Edge}
use Rattle.path_lowering.specs.Spots.{spots_along, same_kind, other_kind}
use Rattle.path_lowering.specs.Lowered.{pieces_in, path_pieces, query_pieces, kind_of_piece}

-- vertices stand at the even places, edges at the odd ones
pub record AtHalf (odd place : ℕ) : Type 0 where
  pub half : ℕ
  pub is : place ≡ 2 * half + odd

abbrev pub parity : Kind → ℕ
parity Vertex = 0
parity Edge = 1

abbrev pub IsPlaceOf : Kind → ℕ → Type 0
IsPlaceOf kind place = AtHalf (parity kind) place

next_place : (kind : Kind) (place : ℕ) → IsPlaceOf kind place → IsPlaceOf (other_kind kind) (place + 1)
next_place Vertex place h = let e = h.is in record { half = h.half; is = omega (arith, e) }
next_place Edge place h = let e = h.is in record { half = h.half + 1; is = omega (arith, e) }

one_kind : (k l : Kind) (place : ℕ) → IsPlaceOf k place → IsPlaceOf l place → k ≡ l
one_kind Vertex Vertex place h g = refl
one_kind Vertex Edge place h g = let e = h.is in let d = g.is in absurd (omega (arith, e, d))
one_kind Edge Vertex place h g = let e = h.is in let d = g.is in absurd (omega (arith, e, d))
one_kind Edge Edge place h g = refl

placed_at : (j : ℕ) (pieces : List Piece) (p : PlacedPiece) → IsIn p (placed j pieces) → IsPlaceOf (kind_of_piece p.1) p.0 × IsIn p.1 pieces
placed_at j [] p h = absurd h
placed_at j (form.Vertex pattern ∷ pieces) p (inl e) =
    (subst (λ (q : PlacedPiece). IsPlaceOf (kind_of_piece q.1) q.0) e (record { half = j; is = omega arith }), inl (ap (λ (q : PlacedPiece). q.1) e))
placed_at j (form.Vertex pattern ∷ pieces) p (inr h) = let r = placed_at j pieces p h in (r.0, inr r.1)
placed_at j (form.Edge direction pattern ∷ pieces) p (inl e) =
    (subst (λ (q : PlacedPiece). IsPlaceOf (kind_of_piece q.1) q.0) e (record { half = j; is = refl }), inl (ap (λ (q : PlacedPiece). q.1) e))
placed_at j (form.Edge direction pattern ∷ pieces) p (inr h) = let r = placed_at (suc j) pieces p h in (r.0, inr r.1)

-- a set of names has no other names
from_put : (name : List ℕ) (others : List (List ℕ)) (x : List ℕ) → IsIn x (put_into name others) → (name ≡ x) ⊎ IsIn x others
from_put name [] x (inl e) = inl e
from_put name [] x (inr h) = absurd h
from_put name (other ∷ others) x h = go (slice_cmp nat_cmp name other) h (λ k. from_put name others x k)
  where
    go : (o : Ordering) → IsIn x (match_ordering o (name ∷ other ∷ others) (other ∷ others) (other ∷ put_into name others))
        → (IsIn x (put_into name others) → (name ≡ x) ⊎ IsIn x others) → (name ≡ x) ⊎ IsIn x (other ∷ others)
    go Less h more = h
    go Equal h more = inr h
    go Greater (inl e) more = inr (inl e)
    go Greater (inr k) more = elim (more k) [ inl e ↦ inl e | inr m ↦ inr (inr m) ]

from_set : (names : List (List ℕ)) (x : List ℕ) → IsIn x (set_of names) → IsIn x names
from_set [] x h = h
from_set (name ∷ names) x h = elim (from_put name (set_of names) x h) [ inl e ↦ inl e | inr k ↦ inr (from_set names x k) ]

in_replicate : {X : Type 0} (n : ℕ) (x y : X) → IsIn y (replicate n x) → x ≡ y
in_replicate zero x y h = absurd h
in_replicate (suc n) x y (inl e) = e
in_replicate (suc n) x y (inr h) = in_replicate n x y h

-- the pieces of an iteration are those of a step
iterated_in : (steps : List Step) (counts : List ℕ) (piece : Piece) → IsIn piece (flat_map (λ iteration. iteration.pieces) (iterations steps counts))
    → IsIn piece (flat_map pieces_in steps)
iterated_in [] counts piece h = absurd h
iterated_in (One one ∷ steps) counts piece h =
    elim (in_parts piece (one ∷ []) (flat_map (λ (iteration : Iteration). iteration.pieces) (iterations steps counts)) h) [
      | inl k ↦ in_append piece (one ∷ []) (flat_map pieces_in steps) (inl k)
      | inr k ↦ in_append piece (one ∷ []) (flat_map pieces_in steps)
          (inr (iterated_in steps counts piece k))
    ]
iterated_in (Part lower upper pieces conditions ∷ steps) [] piece h = absurd h
iterated_in (Part lower upper pieces conditions ∷ steps) (count ∷ counts) piece h =
    let found = from_flat (λ (iteration : Iteration). iteration.pieces) piece (replicate count (record { pieces = pieces; conditions = conditions }) ++ iterations steps counts)
    h in
    elim (in_parts found.0 (replicate count (record { pieces = pieces; conditions = conditions })) (iterations steps counts) found.1) [
      | inl k ↦ in_append piece pieces (flat_map pieces_in steps)
          (inl (subst (λ (i : Iteration). IsIn piece i.pieces) (sym (in_replicate count (record { pieces = pieces; conditions = conditions }) found.0 k)) found.2))
      | inr k ↦ in_append piece pieces (flat_map pieces_in steps)
          (inr (iterated_in steps counts piece (in_flat (λ (iteration : Iteration). iteration.pieces) piece found.0 (iterations steps counts) k found.2)))
    ]

module _ (query : CheckedQuery) where
  -- some element pattern of this kind has the name
  pub record Named (name : List ℕ) (kind : Kind) : Type 0 where
    pub piece : Piece
    pub there : IsIn piece (query_pieces query)
    pub variable : (pattern_of piece).variable ≡ Some name
    pub is : kind_of_piece piece ≡ kind

  abbrev pub KindsAt : Tags → Kind → Type 0
  KindsAt tags kind = (name : List ℕ) → list_any (bytes_eq name) tags.names ≡ true → Named name kind

  module _ (path : CheckedPath) (among : IsIn path query.paths) (choice : Alternative) (there : IsIn choice (choices path)) where
    abbrev pieces : List PlacedPiece
    pieces = (expansion_of path choice).pieces

    abbrev tag_at : ℕ → Tags
    tag_at place = record { names = set_of (variables_at pieces place) }

    operand_there : choice.operand < length path.operands
    operand_there =
        let found = from_flat _ choice (numbers_below (length path.operands)) there in
        let made = from_map _ choice (counts_of (operand_at path found.0).steps) found.2 in
        subst (λ (c : Alternative). c.operand < length path.operands) made.2 (from_below (length path.operands) found.0 found.1)

    piece_there : (piece : Piece) → IsIn piece (flat_map (λ iteration. iteration.pieces) (iterations (operand_at path choice.operand).steps choice.counts))
        → IsIn piece (query_pieces query)
    piece_there piece h =
        in_flat path_pieces piece path query.paths among
        (in_flat (λ operand. flat_map pieces_in operand.steps) piece (operand_at path choice.operand) path.operands
        (in_at path.operands choice.operand (record { steps = []; conditions = [] }) operand_there)
        (iterated_in (operand_at path choice.operand).steps choice.counts piece h))

    at_place : (kind : Kind) (place : ℕ) → IsPlaceOf kind place → KindsAt (tag_at place) kind
    at_place kind place h name among_names =
        let some = some_of (bytes_eq name) (set_of (variables_at pieces place)) among_names in
        let same : name ≡ some.0 = (bytes_eq-Decides name some.0).0 some.2 in
        let found = from_kept (λ (piece : PlacedPiece). cond (nat_eq piece.0 place) (pattern_of piece.1).variable None) some.0 pieces
        (from_set (variables_at pieces place) some.0 some.1) in
        let here = kept (nat_eq found.0.0 place) refl found.2 in
        let piece = placed_at 0 (flat_map (λ (iteration : Iteration). iteration.pieces) (iterations (operand_at path choice.operand).steps choice.counts)) found.0 found.1 in
        record {
          piece = found.0.1;
          there = piece_there found.0.1 piece.1;
          variable = here.1 ∙ ap Some (sym same);
          is = one_kind (kind_of_piece found.0.1) kind place (subst (IsPlaceOf (kind_of_piece found.0.1)) here.0 piece.0) h;
        }
      where
        kept : {p : ℕ} {o : Option (List ℕ)} {x : List ℕ} (b : Bool) → nat_eq p place ≡ b → cond (nat_eq p place) o None ≡ Some x → (p ≡ place) × (o ≡ Some x)
        kept {p} {o} true e h = (eqb-true p place e, sym (ap (λ b. cond b o None) e) ∙ h)
        kept {p} {o} false e h = absurd (none_some (sym (ap (λ b. cond b o None) e) ∙ h))
          where
            none_some : {x : List ℕ} → None ≡ Some x → ⊥
            none_some h = cc

    kinds_along : (kind : Kind) (place n : ℕ) (ns items : List ℕ) → IsPlaceOf kind place → length ns ≡ n → n ≤ length items
        → AllZip KindsAt (map tag_at (range_with_len place n)) (map (λ spot. spot.kind) (spots_along kind ns items))
    kinds_along kind place zero [] items h long many = tt
    kinds_along kind place zero (m ∷ ns) items h long many = absurd (omega (arith, long))
    kinds_along kind place (suc n) [] items h long many = absurd (omega (arith, long))
    kinds_along kind place (suc n) (m ∷ ns) [] h long many = absurd (omega (arith, many))
    kinds_along kind place (suc n) (m ∷ ns) (a ∷ items) h long many =
        (at_place kind place h, kinds_along (other_kind kind) (place + 1) n ns items (next_place kind place h) (omega (arith, long)) (omega (arith, many)))

    pub path_kinds : (ns items : List ℕ) → length ns ≡ place_count (expansion_of path choice) → length ns ≤ length items
        → AllZip KindsAt (tags_of path choice) (map (λ spot. spot.kind) (spots_along Vertex ns items))
    path_kinds ns items long many = kinds_along Vertex 0 (place_count (expansion_of path choice)) ns items (record { half = 0; is = refl }) long (omega (arith, long, many))

  tagged_named : (name : List ℕ) (ts : List Tags) (ks : List Kind) → AllZip KindsAt ts ks → (k : Kind) → IsIn k (tagged name ts ks) → Named name k
  tagged_named name [] ks z k h = absurd h
  tagged_named name (t ∷ ts) [] z k h = absurd h
  tagged_named name (t ∷ ts) (own ∷ ks) z k h = go (list_any (bytes_eq name) t.names) refl h (tagged_named name ts ks z.1 k)
    where
      go : (b : Bool) → list_any (bytes_eq name) t.names ≡ b → IsIn k (cond b (own ∷ tagged name ts ks) (tagged name ts ks)) → (IsIn k (tagged name ts ks) → Named name k)
          → Named name k
      go true e (inl m) more = subst (Named name) m (z.0 name e)
      go true e (inr m) more = more m
      go false e m more = more m

  same_itself : (k : Kind) → same_kind k k ≡ true
  same_itself Vertex = refl
  same_itself Edge = refl

  all_kinds : (ks : List Kind) → ((k l : Kind) → IsIn k ks → IsIn l ks → k ≡ l) → all_same same_kind ks ≡ true
  all_kinds [] h = refl
  all_kinds (k ∷ ks) h = all_from (same_kind k) ks (λ l m. subst (λ v. same_kind k v ≡ true) (h k l (inl refl) (inr m)) (same_itself k))

  pub kinds_agree : ((piece other : Piece) (name : List ℕ) → IsIn piece (query_pieces query) → IsIn other (query_pieces query)
      → (pattern_of piece).variable ≡ Some name → (pattern_of other).variable ≡ Some name → kind_of_piece piece ≡ kind_of_piece other)
      → (names : List (List ℕ)) (ts : List Tags) (ks : List Kind) → AllZip KindsAt ts ks → agree same_kind names ts ks ≡ true
  kinds_agree rule names ts ks z =
      all_from (λ name. all_same same_kind (tagged name ts ks)) names
      (λ name h. all_kinds (tagged name ts ks) (λ k l m n.
      let a = tagged_named name ts ks z k m in
      let b = tagged_named name ts ks z l n in
      sym a.is ∙ rule a.piece b.piece name a.there b.there a.variable b.variable ∙ b.is))
