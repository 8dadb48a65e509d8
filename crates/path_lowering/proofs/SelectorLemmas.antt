-- ALL SHORTEST by candidates: what the selector keeps is what no candidate has shorter.
use Rattle.std.proofs.Common.{◌≡◌, ℕ, suc, ◌+◌, ◌-◌, ◌*◌, ◌<◌, Bool, true, false, not, ◌&&◌, ◌||◌, cond, List, [], ◌∷◌, filter, length, slice_index_or, nat_eq, nat_lt, Some}
use Rattle.std.proofs.Common.{refl, sym, subst, ap, ◌∙◌, arith}
use Rattle.std.specs.List.{list_any, list_all}
use Rattle.std.proofs.lemmas.Bool.{eqb-true, eq-eqb, le-ltb}
use Rattle.std.proofs.lemmas.Bool.Decides.{Decides-ltb}
use Rattle.pgq_base.specs.Instances.{RowValues, InstanceRows}
use Rattle.multisets.specs.Bags.{IsIn}
use Rattle.graph_ast.specs.declared.catalog.Catalog.{Catalog}
use Rattle.graph_ast.specs.declared.catalog.Graph.{Graph}
use Rattle.graph_ast.specs.declared.checked.CheckedPath.{CheckedPath}
use Rattle.graph_ast.specs.declared.blocks.PathBlock.{PathBlock}
use Rattle.graph_ast.specs.Catalogs.{IsValidGraph}
use Rattle.graph_ast.specs.Fits.{Fits}
use Rattle.graph_meaning.specs.Lists.{numbers_below}
use Rattle.graph_meaning.specs.View.{same_identity}
use Rattle.graph_meaning.specs.Walks.{Walk, last_of, edge_count, numbers_of}
use Rattle.graph_meaning.specs.Bindings.{bindings_in_mode, same_ends, is_between, is_selected}
use Rattle.graph_meaning.specs.Blocks.{path_blocks}
use Rattle.graph_meaning.specs.Weights.{is_candidate}
use Rattle.graph_meaning.specs.Rows.{tuples, walk_with, binding_with, mode_passes}
use Rattle.graph_meaning.proofs.Members.{both_parts, both_true, any_from, some_of, in_filter, from_filter, in_below, from_below}
use Rattle.graph_meaning.proofs.BlockRows.{rows_lie}
use Rattle.graph_meaning.proofs.CandidateLemmas.{place_count_of, last_number, shorter_from, shorter_to}
use Rattle.path_lowering.proofs.PlacingLemmas.{both_ways}

fewer_than_one : {A : Type 0} (p : A → Bool) (xs : List A) → nat_lt (length (filter p xs)) 1 ≡ not (list_any p xs)
fewer_than_one p [] = refl
fewer_than_one {A} p (x ∷ xs) = go (p x) (fewer_than_one p xs)
  where
    go : (b : Bool) → nat_lt (length (filter p xs)) 1 ≡ not (list_any p xs) → nat_lt (length (cond b (x ∷ filter p xs) (filter p xs))) 1 ≡ not (b || list_any p xs)
    go true h = le-ltb (suc (length (filter p xs))) 1 (omega arith)
    go false h = h

not_any : {A : Type 0} (p : A → Bool) (xs : List A) → not (list_any p xs) ≡ list_all (λ x. not (p x)) xs
not_any p [] = refl
not_any p (x ∷ xs) = go (p x) (not_any p xs)
  where
    go : (b : Bool) → not (list_any p xs) ≡ list_all (λ x. not (p x)) xs → not (b || list_any p xs) ≡ (not b && list_all (λ x. not (p x)) xs)
    go true h = refl
    go false h = h

module _ (catalog : Catalog) (graph : Graph) (valid : IsValidGraph catalog graph) (instance : InstanceRows) (fits : Fits catalog instance) (path : CheckedPath) (place : ℕ) where
  abbrev walk_of : PathBlock → List RowValues → Walk
  walk_of block rows = walk_with graph block.elements rows

  numbers_are : (block : PathBlock) → IsIn block (path_blocks graph place path) → (rows : List RowValues) → IsIn rows (tuples graph instance block.elements) → block.elements
      ≡ numbers_of (walk_of block rows)
  numbers_are block h rows k = (rows_lie catalog graph valid instance fits path place block h rows k).0.elements

  -- a path block has a walk's places, its first and its last element
  record HasWalk (elements : List ℕ) (walk : Walk) : Type 0 where
    many : length elements ≡ 2 * edge_count walk + 1
    first : slice_index_or elements 0 0 ≡ walk.start.0
    last : slice_index_or elements (length elements - 1) 0 ≡ (last_of walk).0

  has_walk : (block : PathBlock) → IsIn block (path_blocks graph place path) → (rows : List RowValues) → IsIn rows (tuples graph instance block.elements)
      → HasWalk block.elements (walk_of block rows)
  has_walk block h rows k =
      let walk = walk_of block rows in
      subst (λ ns. HasWalk ns walk) (sym (numbers_are block h rows k)) (record { many = place_count_of walk; first = refl; last = last_number walk })

  module _ (part : PathBlock) (part_in : IsIn part (path_blocks graph place path)) (rows : List RowValues) (rows_in : IsIn rows (tuples graph instance part.elements)) where
    abbrev walk : Walk
    walk = walk_of part rows

    -- rows of another path block that the mode keeps, between the same ends
    abbrev pub reach : PathBlock → List RowValues → Bool
    reach other own = mode_passes graph instance path other own && same_ends (walk_of other own) walk

    abbrev candidates : List PathBlock
    candidates = filter (is_candidate part) (path_blocks graph place path)

    abbrev is_length : ℕ → Bool
    is_length k = list_any (λ other. is_between walk k other.walk) (bindings_in_mode graph instance path)

    abbrev has_reach : PathBlock → Bool
    has_reach other = list_any (reach other) (tuples graph instance other.elements)

    here : HasWalk part.elements walk
    here = has_walk part part_in rows rows_in

    candidate_is : (other : PathBlock) → IsIn other (path_blocks graph place path) → (own : List RowValues) → IsIn own (tuples graph instance other.elements)
        → same_ends (walk_of other own) walk ≡ true → edge_count (walk_of other own) < edge_count walk → is_candidate part other ≡ true
    candidate_is other h own k same fewer =
        let there = has_walk other h own k in
        let a = there.many in
        let b = here.many in
        let starts = both_parts (same_identity (walk_of other own).start walk.start) (same_identity (last_of (walk_of other own)) (last_of walk)) same in
        both_true _ _ ((Decides-ltb (length other.elements) (length part.elements)).1 (omega (arith, a, b, fewer)))
        (both_true _ _
        (eq-eqb _ _ (there.first ∙ eqb-true _ _ (both_parts _ _ starts.0).0 ∙ sym here.first))
        (eq-eqb _ _ (there.last ∙ eqb-true _ _ (both_parts _ _ starts.1).0 ∙ sym here.last)))

    fewer_edges : (other : PathBlock) → IsIn other (path_blocks graph place path) → (own : List RowValues) → IsIn own (tuples graph instance other.elements)
        → is_candidate part other ≡ true → edge_count (walk_of other own) < edge_count walk
    fewer_edges other h own k is =
        let there = has_walk other h own k in
        let a = there.many in
        let b = here.many in
        let less = (Decides-ltb (length other.elements) (length part.elements)).0 (both_parts _ _ is).0 in
        omega (arith, a, b, less)

    lengths_are : list_any is_length (numbers_below (edge_count walk)) ≡ list_any has_reach candidates
    lengths_are = both_ways _ _ there back
      where
        there : list_any is_length (numbers_below (edge_count walk)) ≡ true → list_any has_reach candidates ≡ true
        there h =
            let some = some_of is_length (numbers_below (edge_count walk)) h in
            let s = shorter_from catalog graph valid instance fits path place walk some.0 some.2 in
            let is = both_parts (same_ends (walk_of s.block s.rows) walk) (nat_eq (edge_count (walk_of s.block s.rows)) some.0) s.is in
            let below = from_below (edge_count walk) some.0 some.1 in
            let count : edge_count (walk_of s.block s.rows) ≡ some.0 = eqb-true _ _ is.1 in
            any_from has_reach s.block candidates
            (in_filter (is_candidate part) s.block (path_blocks graph place path) s.there (candidate_is s.block s.there s.rows s.tuple is.0 (omega (arith, below, count))))
            (any_from (reach s.block) s.rows (tuples graph instance s.block.elements) s.tuple (both_true _ _ s.passes is.0))

        back : list_any has_reach candidates ≡ true → list_any is_length (numbers_below (edge_count walk)) ≡ true
        back h =
            let other = some_of has_reach candidates h in
            let kept = from_filter (is_candidate part) other.0 (path_blocks graph place path) other.1 in
            let own = some_of (reach other.0) (tuples graph instance other.0.elements) other.2 in
            let parts = both_parts (mode_passes graph instance path other.0 own.0) (same_ends (walk_of other.0 own.0) walk) own.2 in
            let k = edge_count (walk_of other.0 own.0) in
            any_from is_length k (numbers_below (edge_count walk)) (in_below (edge_count walk) k (fewer_edges other.0 kept.0 own.0 own.1 kept.1))
            (shorter_to catalog graph valid instance fits path place walk k (record {
              block = other.0;
              there = kept.0;
              rows = own.0;
              tuple = own.1;
              passes = parts.0;
              is = both_true _ _ parts.1 (eq-eqb k k refl);
            }))

    -- ALL SHORTEST keeps the binding of these rows exactly where no candidate has rows between its ends
    pub shortest_is : is_selected (Some 1) (bindings_in_mode graph instance path) (binding_with graph part rows) ≡ list_all (λ other. not (has_reach other)) candidates
    shortest_is = fewer_than_one is_length (numbers_below (edge_count walk)) ∙ ap not lengths_are ∙ not_any has_reach candidates
