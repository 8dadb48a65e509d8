-- Rows have the ends of a walk where they have the keys of its first and its last row.
use Rattle.std.proofs.Common.{◌≡◌, ℕ, suc, ◌-◌, ◌≤◌, ◌&&◌, List, [], ◌∷◌, length, slice_index_or, refl, sym, ap, ap₂, subst, ◌∙◌, arith}
use Rattle.std.proofs.lemmas.Bool.{eq-eqb}
use Rattle.pgq_base.specs.Instances.{RowValues, values_at, same_values}
use Rattle.graph_ast.specs.declared.catalog.Graph.{Graph}
use Rattle.graph_ast.specs.Lookups.{vertex_element}
use Rattle.graph_meaning.specs.View.{same_identity, vertex_of}
use Rattle.graph_meaning.specs.Walks.{end_of, last_of}
use Rattle.graph_meaning.specs.Bindings.{same_ends}
use Rattle.graph_meaning.specs.Rows.{steps_with, walk_with}
use Rattle.graph_meaning.proofs.RowLemmas.{AreNumbers, AreNumbersAfter}
use Rattle.path_lowering.specs.declared.spots.Kind.TheVariants.{Vertex, Edge}
use Rattle.path_lowering.specs.Spots.{element_at, spots_along}
use Rattle.path_lowering.specs.Shortest.{spot_at, last_place, has_ends_of}
use Rattle.path_lowering.proofs.AnswerLemmas.{spots_many}

module _ (graph : Graph) where
  -- the last vertex is that of the last number and row
  last_after : (v : ℕ) (r : RowValues) (ns : List ℕ) (rows : List RowValues) → AreNumbersAfter graph ns → length rows ≡ length ns
      → end_of (vertex_of graph v r) (steps_with graph ns rows) ≡ vertex_of graph (slice_index_or (v ∷ ns) (length ns) 0) (slice_index_or (r ∷ rows) (length rows) [])
  last_after v r [] [] are long = refl
  last_after v r [] (s ∷ rows) are long = absurd (omega (arith, long))
  last_after v r (e ∷ []) rows are long = absurd are
  last_after v r (e ∷ w ∷ ns) [] are long = absurd (omega (arith, long))
  last_after v r (e ∷ w ∷ ns) (s ∷ []) are long = absurd (omega (arith, long))
  last_after v r (e ∷ w ∷ ns) (s ∷ t ∷ rows) are long = last_after w t ns rows are.2 (omega (arith, long))

  less_one : (n : ℕ) → suc n - 1 ≡ n
  less_one n = omega arith

  last_is : (ns : List ℕ) (rows : List RowValues) → AreNumbers graph ns → length rows ≡ length ns
      → last_of (walk_with graph ns rows) ≡ vertex_of graph (slice_index_or ns (length ns - 1) 0) (slice_index_or rows (length rows - 1) [])
  last_is [] rows are long = absurd are
  last_is (v ∷ ns) [] are long = absurd (omega (arith, long))
  last_is (v ∷ ns) (r ∷ rows) are long =
      last_after v r ns rows are.1 (omega (arith, long))
      ∙ ap₂ (λ m n. vertex_of graph (slice_index_or (v ∷ ns) m 0) (slice_index_or (r ∷ rows) n [])) (sym (less_one (length ns))) (sym (less_one (length rows)))

  first_is : (ns : List ℕ) (rows : List RowValues) → AreNumbers graph ns → length rows ≡ length ns → (walk_with graph ns rows).start
      ≡ vertex_of graph (slice_index_or ns 0 0) (slice_index_or rows 0 [])
  first_is [] rows are long = absurd are
  first_is (v ∷ ns) [] are long = absurd (omega (arith, long))
  first_is (v ∷ ns) (r ∷ rows) are long = refl

  one_end : (a b : ℕ) (x y : RowValues) → a ≡ b → same_identity (vertex_of graph a x) (vertex_of graph b y) ≡ same_values (values_at (vertex_element graph a).key x)
      (values_at (vertex_element graph a).key y)
  one_end a b x y e =
      ap₂ (λ s n. s && same_values (values_at (vertex_element graph a).key x) (values_at (vertex_element graph n).key y)) (eq-eqb a b e) (sym e)

  -- the walks of rows of two path blocks whose end elements are the same
  pub ends_are : (ns ms : List ℕ) (own rows : List RowValues) → AreNumbers graph ns → AreNumbers graph ms → length own ≡ length ns → length rows ≡ length ms
      → slice_index_or ns 0 0 ≡ slice_index_or ms 0 0 → slice_index_or ns (length ns - 1) 0 ≡ slice_index_or ms (length ms - 1) 0
      → same_ends (walk_with graph ns own) (walk_with graph ms rows)
      ≡ (same_values (values_at (vertex_element graph (slice_index_or ns 0 0)).key (slice_index_or own 0 []))
      (values_at (vertex_element graph (slice_index_or ns 0 0)).key (slice_index_or rows 0 []))
      && same_values (values_at (vertex_element graph (slice_index_or ns (length ns - 1) 0)).key (slice_index_or own (length own - 1) []))
      (values_at (vertex_element graph (slice_index_or ns (length ns - 1) 0)).key (slice_index_or rows (length rows - 1) [])))
  ends_are ns ms own rows a b p q first last =
      ap₂ (λ s t. s && t)
      (ap₂ same_identity (first_is ns own a p) (first_is ms rows b q) ∙ one_end (slice_index_or ns 0 0) (slice_index_or ms 0 0) (slice_index_or own 0 [])
      (slice_index_or rows 0 []) first)
      (ap₂ same_identity (last_is ns own a p) (last_is ms rows b q)
      ∙ one_end (slice_index_or ns (length ns - 1) 0) (slice_index_or ms (length ms - 1) 0) (slice_index_or own (length own - 1) []) (slice_index_or rows (length rows - 1) [])
      last)

  -- the elements of the first and the last place
  end_after : (v a : ℕ) (ns items : List ℕ) → AreNumbersAfter graph ns → length ns ≤ length items
      → element_at graph (spot_at (record { kind = Vertex; element = v; item = a } ∷ spots_along Edge ns items) (length ns))
      ≡ vertex_element graph (slice_index_or (v ∷ ns) (length ns) 0)
  end_after v a [] items are many = refl
  end_after v a (e ∷ []) items are many = absurd are
  end_after v a (e ∷ w ∷ ns) [] are many = absurd (omega (arith, many))
  end_after v a (e ∷ w ∷ ns) (b ∷ []) are many = absurd (omega (arith, many))
  end_after v a (e ∷ w ∷ ns) (b ∷ c ∷ items) are many = end_after w c ns items are.2 (omega (arith, many))

  pub last_element : (ns items : List ℕ) → AreNumbers graph ns → length ns ≤ length items
      → element_at graph (spot_at (spots_along Vertex ns items) (length ns - 1)) ≡ vertex_element graph (slice_index_or ns (length ns - 1) 0)
  last_element [] items are many = absurd are
  last_element (v ∷ ns) [] are many = absurd (omega (arith, many))
  last_element (v ∷ ns) (a ∷ items) are many =
      subst (λ n. element_at graph (spot_at (spots_along Vertex (v ∷ ns) (a ∷ items)) n) ≡ vertex_element graph (slice_index_or (v ∷ ns) n 0)) (sym (less_one (length ns)))
      (end_after v a ns items are.1 (omega (arith, many)))

  pub first_element : (ns items : List ℕ) → AreNumbers graph ns → length ns ≤ length items → element_at graph (spot_at (spots_along Vertex ns items) 0)
      ≡ vertex_element graph (slice_index_or ns 0 0)
  first_element [] items are many = absurd are
  first_element (v ∷ ns) [] are many = absurd (omega (arith, many))
  first_element (v ∷ ns) (a ∷ items) are many = refl

  -- so the keys of a candidate's ends say that the walks have the same ends
  pub ends_meet : (ns ms items : List ℕ) (own rows : List RowValues) → AreNumbers graph ns → AreNumbers graph ms → length own ≡ length ns → length rows ≡ length ms
      → length ns ≤ length items
      → slice_index_or ns 0 0 ≡ slice_index_or ms 0 0 → slice_index_or ns (length ns - 1) 0 ≡ slice_index_or ms (length ms - 1) 0
      → same_ends (walk_with graph ns own) (walk_with graph ms rows) ≡ has_ends_of graph (spots_along Vertex ns items) (slice_index_or rows 0 [])
      (slice_index_or rows (length rows - 1) []) own
  ends_meet ns ms items own rows a b p q many first last =
      let spots = spots_along Vertex ns items in
      let size : last_place spots ≡ length ns - 1 = ap (λ n. n - 1) (spots_many Vertex ns items many) in
      let place : length own - 1 ≡ last_place spots = ap (λ n. n - 1) p ∙ sym size in
      let element : vertex_element graph (slice_index_or ns (length ns - 1) 0) ≡ element_at graph (spot_at spots (last_place spots)) =
      sym (last_element ns items a many) ∙ ap (λ n. element_at graph (spot_at spots n)) (sym size) in
      ends_are ns ms own rows a b p q first last
      ∙ ap₂ (λ s t. s && t)
      (ap (λ element. same_values (values_at element.key (slice_index_or own 0 [])) (values_at element.key (slice_index_or rows 0 []))) (sym (first_element ns items a many)))
      (ap₂ (λ element n. same_values (values_at element.key (slice_index_or own n [])) (values_at element.key (slice_index_or rows (length rows - 1) []))) element place)
