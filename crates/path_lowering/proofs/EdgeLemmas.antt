-- When the conditions of an edge pattern are True.
use Rattle.std.proofs.Common.{◌≡◌, ℕ, ◌<◌, Bool, true, false, ◌&&◌, ◌||◌, List, [], ◌∷◌, map, length, refl, sym, ap, ap₂, subst, ◌∙◌, Some, nat_eq}
use Rattle.std.proofs.Math.ListN.{length-map}
use Rattle.std.proofs.lemmas.List.Folds.{list_all-append}
use Rattle.std.proofs.lemmas.Bool.{eqb-true}
use Rattle.pgq_base.specs.declared.value.Value.{Value}
use Rattle.pgq_base.specs.Instances.{RowValues, InstanceRows, value_at, values_at, same_values}
use Rattle.multisets.specs.Bags.{IsIn}
use Rattle.expr_tree.specs.declared.tree.Expr.TheVariants.{All, Any}
use Rattle.graph_ast.specs.declared.catalog.Catalog.{Catalog}
use Rattle.graph_ast.specs.declared.catalog.Graph.{Graph}
use Rattle.graph_ast.specs.declared.catalog.Element.{Element}
use Rattle.graph_ast.specs.declared.catalog.EdgeElement.{EdgeElement}
use Rattle.graph_ast.specs.declared.catalog.End.{End}
use Rattle.graph_ast.specs.declared.query.Direction.{Direction}
use Rattle.graph_ast.specs.declared.query.Direction.TheVariants.{Right, Left, Either, Any as AnyDirection, Undirected}
use Rattle.graph_ast.specs.Lookups.{table_at, vertex_element, edge_element, no_element}
use Rattle.graph_ast.specs.Catalogs.{IsValidElement, IsValidEnd, IsValidGraph}
use Rattle.graph_ast.specs.Fits.{Fits, is_null}
use Rattle.graph_meaning.specs.View.{AVertex, AnEdge, same_identity, vertex_of, edge_of}
use Rattle.graph_meaning.specs.Readings.{allows, leads}
use Rattle.graph_meaning.specs.Blocks.{may_lead}
use Rattle.sql_algebra.specs.declared.tree.ColumnLeaf.{ColumnLeaf}
use Rattle.path_lowering.specs.declared.spots.Kind.TheVariants.{Vertex, Edge}
use Rattle.path_lowering.specs.declared.spots.Spot.{Spot}
use Rattle.path_lowering.specs.Spots.{element_of_kind, element_at, of_row, row_at, standing}
use Rattle.path_lowering.specs.Emitted.{SqlCondition, goes_right, goes_left, read_either, meets_end, leads_from, edge_conditions}
use Rattle.path_lowering.specs.Shown.{Shows, count_of_kind}
use Rattle.path_lowering.proofs.Truths.{true_in, all_true_in, true_All, true_Any, or_false, and_kept}
use Rattle.path_lowering.proofs.Facts.{in_at, element_valid, key_value}
use Rattle.path_lowering.proofs.ColumnLemmas.{all_equal}

pub equally_many : {X Y Z : Type 0} (f : X → Z) (g : Y → Z) (xs : List X) (ys : List Y) → map f xs ≡ map g ys → length xs ≡ length ys
equally_many f g xs ys e = sym (length-map xs f) ∙ ap length e ∙ length-map ys g

crossed : (m n a b : Bool) → ((m && n) && (a && b)) ≡ ((m && a) && (n && b))
crossed true true a b = refl
crossed true false true b = refl
crossed true false false b = refl
crossed false n a b = refl

module _ (env : ColumnLeaf → Value) where
  two_ways : (right left : List SqlCondition) → all_true_in env (Any (All right ∷ All left ∷ []) ∷ []) ≡ (all_true_in env right || all_true_in env left)
  two_ways right left =
      and_kept _ ∙ true_Any env (All right ∷ All left ∷ [])
      ∙ ap₂ (λ a b. a || (b || false)) (true_All env right) (true_All env left)
      ∙ ap (λ b. all_true_in env right || b) (or_false (all_true_in env left))

  -- one of the readings that a direction allows and elements may have
  read_means : (direction : Direction) (m n : Bool) (right left : List SqlCondition) → allows direction m n ≡ true
      → all_true_in env (read_either (goes_right direction && m) (goes_left direction && n) right left)
      ≡ allows direction (m && all_true_in env right) (n && all_true_in env left)
  read_means Right true n right left h = refl
  read_means Right false n right left h = cc
  read_means Left m true right left h = refl
  read_means Left m false right left h = cc
  read_means Either true true right left h = two_ways right left
  read_means Either true false right left h = sym (or_false (all_true_in env right))
  read_means Either false true right left h = refl
  read_means Either false false right left h = cc
  read_means AnyDirection true true right left h = two_ways right left
  read_means AnyDirection true false right left h = sym (or_false (all_true_in env right))
  read_means AnyDirection false true right left h = refl
  read_means AnyDirection false false right left h = cc
  read_means Undirected m n right left h = cc

module _ (catalog : Catalog) (graph : Graph) (instance : InstanceRows) (prefix : ℕ) (env : ColumnLeaf → Value) (rows : List RowValues) (spots : List Spot)
    (valid : IsValidGraph catalog graph) (fits : Fits catalog instance) (shows : Shows catalog graph instance prefix env rows spots) where
  -- what is known of a place
  pub spot_valid : (spot : Spot) → IsIn spot spots → IsValidElement catalog (element_at graph spot)
  spot_valid spot h = element_valid catalog graph valid spot.kind spot.element (shows.elements spot h)

  pub key_known : (spot : Spot) → IsIn spot spots → (c : ℕ) → IsIn c (element_at graph spot).key → is_null (value_at (row_at rows spot) c) ≡ false
  key_known spot h = key_value catalog instance fits (element_at graph spot) (spot_valid spot h) (row_at rows spot) (shows.members spot h)

  -- the end of an edge refers to a vertex
  end_means : (edge vertex : Spot) (element : Element) (end : End) → IsIn edge spots → IsIn vertex spots → element_at graph edge ≡ element → vertex.kind ≡ Vertex
      → IsValidEnd catalog graph element end
      → (nat_eq end.vertex vertex.element && all_true_in env (meets_end catalog graph prefix edge end vertex))
      ≡ same_identity (end.vertex, values_at end.columns (row_at rows edge)) (vertex_of graph vertex.element (row_at rows vertex))
  end_means edge vertex element end p q is kind ok = go (nat_eq end.vertex vertex.element) refl
    where
      key_is : (element_at graph vertex).key ≡ (vertex_element graph vertex.element).key
      key_is = ap (λ k. (element_of_kind graph k vertex.element).key) kind

      lengths : end.vertex ≡ vertex.element → length end.columns ≡ length (element_at graph vertex).key
      lengths e =
          equally_many _ _ end.columns (vertex_element graph end.vertex).key ok.classes ∙ ap (λ n. length (vertex_element graph n).key) e ∙ ap length (sym key_is)

      go : (b : Bool) → nat_eq end.vertex vertex.element ≡ b → (b && all_true_in env (meets_end catalog graph prefix edge end vertex))
          ≡ (b && same_values (values_at end.columns (row_at rows edge)) (values_at (vertex_element graph vertex.element).key (row_at rows vertex)))
      go false e = refl
      go true e =
          all_equal catalog graph prefix env edge vertex (row_at rows edge) (row_at rows vertex) (shows.columns edge p) (shows.columns vertex q)
          end.columns (element_at graph vertex).key (lengths (eqb-true _ _ e))
          (λ c k. subst (λ x. c < length (table_at catalog x.table).columns) (sym is) (ok.columns.places c k))
          (spot_valid vertex q).key.places (key_known vertex q)
          ∙ ap (λ key. same_values (values_at end.columns (row_at rows edge)) (values_at key (row_at rows vertex))) key_is

  module _ (edge : Spot) (p : IsIn edge spots) (edge_kind : edge.kind ≡ Edge) where
    abbrev there : EdgeElement
    there = edge_element graph edge.element

    below : edge.element < length graph.edges
    below = subst (λ k. edge.element < count_of_kind graph k) edge_kind (shows.elements edge p)

    edge_in : IsIn there graph.edges
    edge_in = in_at graph.edges edge.element (record { element = no_element; source = record { columns = []; vertex = 0 }; destination = record { columns = []; vertex = 0 } })
        below

    element_is : element_at graph edge ≡ there.element
    element_is = ap (λ k. element_of_kind graph k edge.element) edge_kind

    edge_is : standing graph rows edge ≡ AnEdge (edge_of graph edge.element (row_at rows edge))
    edge_is = ap (λ k. of_row graph k edge.element (row_at rows edge)) edge_kind

    lead_means : (from to : Spot) → IsIn from spots → IsIn to spots → from.kind ≡ Vertex → to.kind ≡ Vertex
        → (may_lead there (Some from.element) (Some to.element) && all_true_in env (leads_from catalog graph prefix from edge to))
        ≡ leads (edge_of graph edge.element (row_at rows edge)) (Some (standing graph rows from)) (Some (standing graph rows to))
    lead_means from to q r from_kind to_kind =
        ap (λ b. may_lead there (Some from.element) (Some to.element) && b)
        (list_all-append (true_in env) (meets_end catalog graph prefix edge there.source from) (meets_end catalog graph prefix edge there.destination to))
        ∙ crossed (nat_eq there.source.vertex from.element) (nat_eq there.destination.vertex to.element)
        (all_true_in env (meets_end catalog graph prefix edge there.source from)) (all_true_in env (meets_end catalog graph prefix edge there.destination to))
        ∙ ap₂ (λ a b. a && b)
        (end_means edge from there.element there.source p q element_is from_kind (valid.sources there edge_in))
        (end_means edge to there.element there.destination p r element_is to_kind (valid.destinations there edge_in))
        ∙ sym (ap (λ y. leads (edge_of graph edge.element (row_at rows edge)) (Some y) (Some (standing graph rows to)))
        (ap (λ k. of_row graph k from.element (row_at rows from)) from_kind)
        ∙ ap (λ y. leads (edge_of graph edge.element (row_at rows edge)) (Some (AVertex (vertex_of graph from.element (row_at rows from)))) (Some y))
        (ap (λ k. of_row graph k to.element (row_at rows to)) to_kind))

    -- the key equalities of an edge with its neighbours say that it joins them in its direction
    pub edge_means : (direction : Direction) (left right : Spot) → IsIn left spots → IsIn right spots → left.kind ≡ Vertex → right.kind ≡ Vertex
        → allows direction (may_lead there (Some left.element) (Some right.element)) (may_lead there (Some right.element) (Some left.element)) ≡ true
        → all_true_in env (edge_conditions catalog graph prefix direction left edge right)
        ≡ allows direction (leads (edge_of graph edge.element (row_at rows edge)) (Some (standing graph rows left)) (Some (standing graph rows right)))
        (leads (edge_of graph edge.element (row_at rows edge)) (Some (standing graph rows right)) (Some (standing graph rows left)))
    edge_means direction left right q r left_kind right_kind may =
        read_means env direction (may_lead there (Some left.element) (Some right.element)) (may_lead there (Some right.element) (Some left.element))
        (leads_from catalog graph prefix left edge right) (leads_from catalog graph prefix right edge left) may
        ∙ ap₂ (allows direction) (lead_means left right q r left_kind right_kind) (lead_means right left r q right_kind left_kind)
