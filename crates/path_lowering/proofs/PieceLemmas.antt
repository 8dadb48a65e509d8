-- When the conditions of the element patterns of a choice are True.
use Rattle.std.proofs.Common.{◌≡◌, ℕ, zero, suc, ◌+◌, ◌-◌, ◌*◌, ◌<◌, ◌≤◌, Bool, true, false, ◌&&◌, List, [], ◌∷◌, map, flat_map, refl, sym, ap, ap₂, subst, ◌∙◌, inl, inr, arith}
use Rattle.std.proofs.Common.{None, Some, option_map}
use Rattle.std.specs.Prelude.{slice_get}
use Rattle.std.specs.List.{list_all}
use Rattle.std.proofs.lemmas.Bool.{and_parts}
use Rattle.std.proofs.lemmas.Option.{slice_get-map}
use Rattle.pgq_base.specs.declared.value.Value.{Value}
use Rattle.pgq_base.specs.Instances.{RowValues, InstanceRows}
use Rattle.multisets.specs.Bags.{IsIn}
use Rattle.graph_ast.specs.declared.catalog.Catalog.{Catalog}
use Rattle.graph_ast.specs.declared.catalog.Graph.{Graph}
use Rattle.graph_ast.specs.declared.checked.Pattern.{Pattern}
use Rattle.graph_ast.specs.declared.checked.Piece.{Piece}
use Rattle.graph_ast.specs.declared.checked.Piece.TheVariants as form
use Rattle.graph_ast.specs.declared.query.Direction.{Direction}
use Rattle.graph_ast.specs.Lookups.{vertex_element, edge_element}
use Rattle.graph_ast.specs.Labels.{holds_where_given}
use Rattle.graph_ast.specs.Catalogs.{IsValidGraph}
use Rattle.graph_ast.specs.Fits.{Fits}
use Rattle.graph_meaning.specs.View.{Edge as ViewEdge, GraphElement, edge_of}
use Rattle.graph_meaning.specs.Choices.{placed, edges_in}
use Rattle.graph_meaning.specs.Readings.{allows, leads, meets, meets_piece}
use Rattle.graph_meaning.specs.Blocks.{may_lead, may_meet, may_meet_piece}
use Rattle.sql_algebra.specs.declared.tree.ColumnLeaf.{ColumnLeaf}
use Rattle.path_lowering.specs.declared.spots.Kind.{Kind}
use Rattle.path_lowering.specs.declared.spots.Kind.TheVariants.{Vertex, Edge}
use Rattle.path_lowering.specs.declared.spots.Spot.{Spot}
use Rattle.path_lowering.specs.Spots.{of_row, row_at, standing, elements_at}
use Rattle.path_lowering.specs.Emitted.{between, piece_conditions}
use Rattle.path_lowering.specs.Shown.{Shows}
use Rattle.path_lowering.proofs.Truths.{true_in, all_true_in, list_all-flat_map}
use Rattle.path_lowering.proofs.EdgeLemmas.{edge_means}

-- a place of a kind
pub record Seat (spots : List Spot) (place : ℕ) (kind : Kind) : Type 0 where
  pub spot : Spot
  pub at : slice_get spots place ≡ Some spot
  pub kind_is : spot.kind ≡ kind

pub got_in : {X : Type 0} (xs : List X) (i : ℕ) (x : X) → slice_get xs i ≡ Some x → IsIn x xs
got_in [] i x h = cc
got_in (y ∷ ys) zero x h = inl (cc)
got_in (y ∷ ys) (suc i) x h = inr (got_in ys i x h)

abbrev pub numbers_at : List Spot → List ℕ
numbers_at spots = map (λ spot. spot.element) spots

module _ (catalog : Catalog) (graph : Graph) (instance : InstanceRows) (prefix : ℕ) (env : ColumnLeaf → Value) (rows : List RowValues) (spots : List Spot)
    (valid : IsValidGraph catalog graph) (fits : Fits catalog instance) (shows : Shows catalog graph instance prefix env rows spots) where
  abbrev elements : List GraphElement
  elements = elements_at graph rows spots

  seat_in : (place : ℕ) (kind : Kind) (seat : Seat spots place kind) → IsIn seat.spot spots
  seat_in place kind seat = got_in spots place seat.spot seat.at

  element_there : (place : ℕ) (kind : Kind) (seat : Seat spots place kind) → slice_get elements place ≡ Some (of_row graph kind seat.spot.element (row_at rows seat.spot))
  element_there place kind seat =
      slice_get-map (standing graph rows) spots place ∙ ap (option_map (standing graph rows)) seat.at
      ∙ ap (λ k. Some (of_row graph k seat.spot.element (row_at rows seat.spot))) seat.kind_is

  standing_there : (place : ℕ) (kind : Kind) (seat : Seat spots place kind) → slice_get elements place ≡ Some (standing graph rows seat.spot)
  standing_there place kind seat = slice_get-map (standing graph rows) spots place ∙ ap (option_map (standing graph rows)) seat.at

  number_there : (place : ℕ) (kind : Kind) (seat : Seat spots place kind) → slice_get (numbers_at spots) place ≡ Some seat.spot.element
  number_there place kind seat = slice_get-map (λ spot. spot.element) spots place ∙ ap (option_map (λ spot. spot.element)) seat.at

  -- the labels of an element are known from its table
  pub vertex_meets : (place : ℕ) (pattern : Pattern) → Seat spots place Vertex → may_meet_piece graph (numbers_at spots) (place, form.Vertex pattern) ≡ true
      → meets_piece graph elements (place, form.Vertex pattern) ≡ true
  vertex_meets place pattern seat may =
      ap (λ o. elim o [ None ↦ false | Some x ↦ meets graph elements place (form.Vertex pattern) x ]) (element_there place Vertex seat)
      ∙ (sym (ap (λ o. elim o [ None ↦ true | Some number ↦ holds_where_given (vertex_element graph number).labels pattern.label ]) (number_there place Vertex seat)) ∙ may)

  module _ (place : ℕ) (direction : Direction) (pattern : Pattern) (left : Seat spots (place - 1) Vertex) (edge : Seat spots place Edge) (right : Seat spots (place + 1) Vertex)
      (may : may_meet_piece graph (numbers_at spots) (place, form.Edge direction pattern) ≡ true) where
    abbrev here : ViewEdge
    here = edge_of graph edge.spot.element (row_at rows edge.spot)

    abbrev before : GraphElement
    before = standing graph rows left.spot

    abbrev after : GraphElement
    after = standing graph rows right.spot

    abbrev number : ℕ
    number = edge.spot.element

    abbrev labels : Bool
    labels = holds_where_given (edge_element graph number).element.labels pattern.label

    abbrev may_join : Bool
    may_join = allows direction (may_lead (edge_element graph number) (Some left.spot.element) (Some right.spot.element))
        (may_lead (edge_element graph number) (Some right.spot.element) (Some left.spot.element))

    may_is : (labels && may_join) ≡ true
    may_is =
        sym (ap (λ o. elim o [ None ↦ true | Some n ↦ may_meet graph (numbers_at spots) place (form.Edge direction pattern) n ]) (number_there place Edge edge)
        ∙ ap₂ (λ l r. labels && allows direction (may_lead (edge_element graph number) l r) (may_lead (edge_element graph number) r l))
        (number_there (place - 1) Vertex left) (number_there (place + 1) Vertex right)) ∙ may

    may_parts : (labels ≡ true) × (may_join ≡ true)
    may_parts = and_parts labels may_join may_is

    pub edge_meets : meets_piece graph elements (place, form.Edge direction pattern)
        ≡ all_true_in env (piece_conditions catalog graph prefix spots (place, form.Edge direction pattern))
    edge_meets =
        ap (λ o. elim o [ None ↦ false | Some x ↦ meets graph elements place (form.Edge direction pattern) x ]) (element_there place Edge edge)
        ∙ ap₂ (λ l r. labels && allows direction (leads here l r) (leads here r l)) (standing_there (place - 1) Vertex left) (standing_there (place + 1) Vertex right)
        ∙ ap (λ b. b && allows direction (leads here (Some before) (Some after)) (leads here (Some after) (Some before))) may_parts.0
        ∙ sym (edge_means catalog graph instance prefix env rows spots valid fits shows edge.spot (seat_in place Edge edge) edge.kind_is direction left.spot right.spot
        (seat_in (place - 1) Vertex left) (seat_in (place + 1) Vertex right) left.kind_is right.kind_is may_parts.1)
        ∙ sym (ap₂ (λ l r. all_true_in env (between catalog graph prefix direction l (slice_get spots place) r)) left.at right.at
        ∙ ap (λ o. all_true_in env (between catalog graph prefix direction (Some left.spot) o (Some right.spot))) edge.at)

  -- vertices and edges in turn, as many as there are edge patterns
  module _ (edges : ℕ) (vertex_seat : (i : ℕ) → i ≤ edges → Seat spots (2 * i) Vertex) (edge_seat : (i : ℕ) → i < edges → Seat spots (2 * i + 1) Edge) where
    each_means : (j : ℕ) (pieces : List Piece) → j + edges_in pieces ≤ edges → list_all (may_meet_piece graph (numbers_at spots)) (placed j pieces) ≡ true
        → list_all (meets_piece graph elements) (placed j pieces) ≡ list_all (λ piece. all_true_in env (piece_conditions catalog graph prefix spots piece)) (placed j pieces)
    each_means j [] within may = refl
    each_means j (form.Vertex pattern ∷ pieces) within may =
        let p = and_parts _ _ may in
        ap₂ (λ a b. a && b) (vertex_meets (2 * j) pattern (vertex_seat j (omega arith)) p.0) (each_means j pieces within p.1)
    each_means j (form.Edge direction pattern ∷ pieces) within may =
        let p = and_parts _ _ may in
        ap₂ (λ a b. a && b)
        (edge_meets (2 * j + 1) direction pattern (subst (λ n. Seat spots n Vertex) (omega arith) (vertex_seat j (omega arith))) (edge_seat j (omega arith))
        (subst (λ n. Seat spots n Vertex) (omega arith) (vertex_seat (suc j) (omega arith))) p.0)
        (each_means (suc j) pieces (omega arith) p.1)

    pub pieces_mean : (j : ℕ) (pieces : List Piece) → j + edges_in pieces ≤ edges → list_all (may_meet_piece graph (numbers_at spots)) (placed j pieces) ≡ true
        → list_all (meets_piece graph elements) (placed j pieces) ≡ all_true_in env (flat_map (piece_conditions catalog graph prefix spots) (placed j pieces))
    pieces_mean j pieces within may = each_means j pieces within may ∙ sym (list_all-flat_map (true_in env) (piece_conditions catalog graph prefix spots) (placed j pieces))
