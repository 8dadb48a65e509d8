-- When the conditions of a mode are True.
use Rattle.std.proofs.Common.{◌≡◌, ℕ, Bool, true, false, not, ◌&&◌, ◌||◌, cond, List, [], ◌∷◌, map, flat_map, length, refl, sym, ap, ap₂, ◌∙◌, inl, inr, Option, None, Some, nat_eq}
use Rattle.std.specs.List.{list_all, list_any, filter_map}
use Rattle.std.proofs.lemmas.Bool.{eqb-true}
use Rattle.std.proofs.lemmas.List.Folds.{list_all-append}
use Rattle.pgq_base.specs.declared.value.Value.{Value}
use Rattle.pgq_base.specs.Instances.{RowValues, InstanceRows, values_at, same_values}
use Rattle.multisets.specs.Bags.{IsIn}
use Rattle.expr_tree.specs.declared.tree.Comparison.TheVariants.{NotEqual}
use Rattle.graph_ast.specs.declared.catalog.Catalog.{Catalog}
use Rattle.graph_ast.specs.declared.catalog.Graph.{Graph}
use Rattle.graph_ast.specs.declared.query.Mode.{Mode}
use Rattle.graph_ast.specs.declared.query.Mode.TheVariants as mode
use Rattle.graph_ast.specs.Catalogs.{IsValidGraph}
use Rattle.graph_ast.specs.Fits.{Fits}
use Rattle.graph_meaning.specs.Lists.{all_different}
use Rattle.graph_meaning.specs.View.{Identity, Edge as ViewEdge, GraphElement, AVertex, AnEdge, same_identity}
use Rattle.graph_meaning.specs.Walks.{Walk, places_of, elements_after, vertices_along, edges_along}
use Rattle.graph_meaning.specs.Bindings.{without_last, is_simple, keeps_mode}
use Rattle.sql_algebra.specs.declared.tree.ColumnLeaf.{ColumnLeaf}
use Rattle.path_lowering.specs.declared.spots.Kind.{Kind}
use Rattle.path_lowering.specs.declared.spots.Kind.TheVariants.{Vertex, Edge}
use Rattle.path_lowering.specs.declared.spots.Spot.{Spot}
use Rattle.path_lowering.specs.Spots.{element_of_kind, element_at, of_row, row_at, elements_at}
use Rattle.path_lowering.specs.Emitted.{compared_columns, any_of, edge_spots, vertex_spots, differing, all_differing, simply_differing, mode_conditions}
use Rattle.path_lowering.specs.Shown.{Shows}
use Rattle.path_lowering.proofs.Truths.{true_in, all_true_in, list_all-flat_map, and_kept}
use Rattle.path_lowering.proofs.ColumnLemmas.{any_differs}
use Rattle.path_lowering.proofs.EdgeLemmas.{spot_valid, key_known}

-- the vertices among some elements, and the edges
abbrev pub vertex_only : GraphElement → Option Identity
vertex_only (AVertex x) = Some x
vertex_only (AnEdge x) = None

abbrev pub edge_only : GraphElement → Option Identity
edge_only (AVertex x) = None
edge_only (AnEdge x) = Some x.identity

vertices_after : (steps : List (ViewEdge × Identity)) → filter_map vertex_only (elements_after steps) ≡ map (λ step. step.1) steps
vertices_after [] = refl
vertices_after (step ∷ steps) = ap (λ l. step.1 ∷ l) (vertices_after steps)

edges_after : (steps : List (ViewEdge × Identity)) → filter_map edge_only (elements_after steps) ≡ map (λ step. step.0.identity) steps
edges_after [] = refl
edges_after (step ∷ steps) = ap (λ l. step.0.identity ∷ l) (edges_after steps)

vertices_placed : (walk : Walk) → filter_map vertex_only (places_of walk) ≡ vertices_along walk
vertices_placed walk = ap (λ l. walk.start ∷ l) (vertices_after walk.steps)

edges_placed : (walk : Walk) → filter_map edge_only (places_of walk) ≡ edges_along walk
edges_placed walk = edges_after walk.steps

without_last_map : {X Y : Type 0} (f : X → Y) (xs : List X) → without_last (map f xs) ≡ map f (without_last xs)
without_last_map f [] = refl
without_last_map f (x ∷ []) = refl
without_last_map f (x ∷ y ∷ xs) = ap (λ l. f x ∷ l) (without_last_map f (y ∷ xs))

without_last_in : {X : Type 0} (xs : List X) (z : X) → IsIn z (without_last xs) → IsIn z xs
without_last_in [] z h = absurd h
without_last_in (x ∷ []) z h = absurd h
without_last_in (x ∷ y ∷ xs) z (inl e) = inl e
without_last_in (x ∷ y ∷ xs) z (inr h) = inr (without_last_in (y ∷ xs) z h)

not_or : (a b : Bool) → not (a || b) ≡ (not a && not b)
not_or true b = refl
not_or false b = refl

module _ (catalog : Catalog) (graph : Graph) (instance : InstanceRows) (prefix : ℕ) (env : ColumnLeaf → Value) (rows : List RowValues) (spots : List Spot)
    (valid : IsValidGraph catalog graph) (fits : Fits catalog instance) (shows : Shows catalog graph instance prefix env rows spots) where
  abbrev pub identity_at : Spot → Identity
  identity_at spot = (spot.element, values_at (element_at graph spot).key (row_at rows spot))

  differing_means : (x y : Spot) → IsIn x spots → IsIn y spots → x.kind ≡ y.kind
      → all_true_in env (differing catalog graph prefix x y) ≡ not (same_identity (identity_at x) (identity_at y))
  differing_means x y p q kinds = go (nat_eq x.element y.element) refl
    where
      same : x.element ≡ y.element → length (element_at graph x).key ≡ length (element_at graph y).key
      same e = ap₂ (λ k n. length (element_of_kind graph k n).key) kinds e

      go : (b : Bool) → nat_eq x.element y.element ≡ b
          → all_true_in env (cond b (any_of (compared_columns catalog graph prefix NotEqual x (element_at graph x).key y (element_at graph y).key) ∷ []) [])
          ≡ not (b && same_values (values_at (element_at graph x).key (row_at rows x)) (values_at (element_at graph y).key (row_at rows y)))
      go false e = refl
      go true e =
          and_kept _ ∙ any_differs catalog graph prefix env x y (row_at rows x) (row_at rows y) (shows.columns x p) (shows.columns y q)
          (element_at graph x).key (element_at graph y).key (same (eqb-true _ _ e))
          (spot_valid catalog graph instance prefix env rows spots valid fits shows x p).key.places
          (spot_valid catalog graph instance prefix env rows spots valid fits shows y q).key.places
          (key_known catalog graph instance prefix env rows spots valid fits shows x p)
          (key_known catalog graph instance prefix env rows spots valid fits shows y q)

  module _ (kind : Kind) where
    abbrev AreOfKind : List Spot → Type 0
    AreOfKind xs = (x : Spot) → IsIn x xs → IsIn x spots × (x.kind ≡ kind)

    from_one : (x : Spot) → IsIn x spots × (x.kind ≡ kind) → (xs : List Spot) → AreOfKind xs
        → list_all (λ y. all_true_in env (differing catalog graph prefix x y)) xs ≡ not (list_any (same_identity (identity_at x)) (map identity_at xs))
    from_one x p [] all = refl
    from_one x p (y ∷ ys) all =
        ap₂ (λ a b. a && b) (differing_means x y p.0 (all y (inl refl)).0 (p.1 ∙ sym (all y (inl refl)).1)) (from_one x p ys (λ z k. all z (inr k)))
        ∙ sym (not_or (same_identity (identity_at x) (identity_at y)) (list_any (same_identity (identity_at x)) (map identity_at ys)))

    one_means : (x : Spot) → IsIn x spots × (x.kind ≡ kind) → (xs : List Spot) → AreOfKind xs
        → all_true_in env (flat_map (differing catalog graph prefix x) xs) ≡ not (list_any (same_identity (identity_at x)) (map identity_at xs))
    one_means x p xs all = list_all-flat_map (true_in env) (differing catalog graph prefix x) xs ∙ from_one x p xs all

    all_means : (xs : List Spot) → AreOfKind xs → all_true_in env (all_differing catalog graph prefix xs) ≡ all_different same_identity (map identity_at xs)
    all_means [] all = refl
    all_means (x ∷ xs) all =
        list_all-append (true_in env) (flat_map (differing catalog graph prefix x) xs) (all_differing catalog graph prefix xs)
        ∙ ap₂ (λ a b. a && b) (one_means x (all x (inl refl)) xs (λ z k. all z (inr k))) (all_means xs (λ z k. all z (inr k)))

    simple_means : (xs : List Spot) → AreOfKind xs → all_true_in env (simply_differing catalog graph prefix xs) ≡ is_simple (map identity_at xs)
    simple_means [] all = refl
    simple_means (x ∷ xs) all =
        list_all-append (true_in env) (flat_map (differing catalog graph prefix x) (without_last xs)) (all_differing catalog graph prefix xs)
        ∙ ap₂ (λ a b. a && b)
        (one_means x (all x (inl refl)) (without_last xs) (λ z k. all z (inr (without_last_in xs z k)))
        ∙ ap (λ l. not (list_any (same_identity (identity_at x)) l)) (sym (without_last_map identity_at xs)))
        (all_means xs (λ z k. all z (inr k)))

  edges_of_kind : (some : List Spot) → ((x : Spot) → IsIn x some → IsIn x spots) → (x : Spot) → IsIn x (edge_spots some) → IsIn x spots × (x.kind ≡ Edge)
  edges_of_kind [] all x h = absurd h
  edges_of_kind (y ∷ ys) all x h = go y.kind refl h (edges_of_kind ys (λ z k. all z (inr k)) x)
    where
      go : (k : Kind) → y.kind ≡ k → IsIn x (cond (elim k [ Vertex ↦ false | Edge ↦ true ]) (y ∷ edge_spots ys) (edge_spots ys))
          → (IsIn x (edge_spots ys) → IsIn x spots × (x.kind ≡ Edge)) → IsIn x spots × (x.kind ≡ Edge)
      go Vertex e k more = more k
      go Edge e (inl s) more = (all x (inl s), ap (λ z. z.kind) (sym s) ∙ e)
      go Edge e (inr k) more = more k

  vertices_of_kind : (some : List Spot) → ((x : Spot) → IsIn x some → IsIn x spots) → (x : Spot) → IsIn x (vertex_spots some) → IsIn x spots × (x.kind ≡ Vertex)
  vertices_of_kind [] all x h = absurd h
  vertices_of_kind (y ∷ ys) all x h = go y.kind refl h (vertices_of_kind ys (λ z k. all z (inr k)) x)
    where
      go : (k : Kind) → y.kind ≡ k → IsIn x (cond (elim k [ Vertex ↦ true | Edge ↦ false ]) (y ∷ vertex_spots ys) (vertex_spots ys))
          → (IsIn x (vertex_spots ys) → IsIn x spots × (x.kind ≡ Vertex)) → IsIn x spots × (x.kind ≡ Vertex)
      go Edge e k more = more k
      go Vertex e (inl s) more = (all x (inl s), ap (λ z. z.kind) (sym s) ∙ e)
      go Vertex e (inr k) more = more k

  vertices_stand : (some : List Spot) → filter_map vertex_only (elements_at graph rows some) ≡ map identity_at (vertex_spots some)
  vertices_stand [] = refl
  vertices_stand (x ∷ xs) = go x.kind refl (vertices_stand xs)
    where
      go : (k : Kind) → x.kind ≡ k → filter_map vertex_only (elements_at graph rows xs) ≡ map identity_at (vertex_spots xs)
          → filter_map vertex_only (of_row graph k x.element (row_at rows x) ∷ elements_at graph rows xs)
          ≡ map identity_at (cond (elim k [ Vertex ↦ true | Edge ↦ false ]) (x ∷ vertex_spots xs) (vertex_spots xs))
      go Vertex e more = ap₂ (λ a l. a ∷ l) (ap (λ k. (x.element, values_at (element_of_kind graph k x.element).key (row_at rows x))) (sym e)) more
      go Edge e more = more

  edges_stand : (some : List Spot) → filter_map edge_only (elements_at graph rows some) ≡ map identity_at (edge_spots some)
  edges_stand [] = refl
  edges_stand (x ∷ xs) = go x.kind refl (edges_stand xs)
    where
      go : (k : Kind) → x.kind ≡ k → filter_map edge_only (elements_at graph rows xs) ≡ map identity_at (edge_spots xs)
          → filter_map edge_only (of_row graph k x.element (row_at rows x) ∷ elements_at graph rows xs)
          ≡ map identity_at (cond (elim k [ Vertex ↦ false | Edge ↦ true ]) (x ∷ edge_spots xs) (edge_spots xs))
      go Edge e more = ap₂ (λ a l. a ∷ l) (ap (λ k. (x.element, values_at (element_of_kind graph k x.element).key (row_at rows x))) (sym e)) more
      go Vertex e more = more

  -- the inequalities of a mode say that it keeps the walk through what stands at the places
  pub mode_means : (which : Mode) (walk : Walk) → places_of walk ≡ elements_at graph rows spots
      → all_true_in env (mode_conditions catalog graph prefix which spots) ≡ keeps_mode which walk
  mode_means mode.Walk walk e = refl
  mode_means mode.Trail walk e =
      all_means Edge (edge_spots spots) (edges_of_kind spots (λ x h. h))
      ∙ ap (all_different same_identity) (sym (edges_stand spots) ∙ ap (filter_map edge_only) (sym e) ∙ edges_placed walk)
  mode_means mode.Acyclic walk e =
      all_means Vertex (vertex_spots spots) (vertices_of_kind spots (λ x h. h))
      ∙ ap (all_different same_identity) (sym (vertices_stand spots) ∙ ap (filter_map vertex_only) (sym e) ∙ vertices_placed walk)
  mode_means mode.Simple walk e =
      simple_means Vertex (vertex_spots spots) (vertices_of_kind spots (λ x h. h))
      ∙ ap is_simple (sym (vertices_stand spots) ∙ ap (filter_map vertex_only) (sym e) ∙ vertices_placed walk)
