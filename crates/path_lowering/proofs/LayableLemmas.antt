-- What is known of the places of a path block that is laid along them.
use Rattle.std.proofs.Common.{◌≡◌, ℕ, zero, suc, ◌+◌, ◌*◌, ◌-◌, ◌<◌, ◌≤◌, Bool, true, false, ◌&&◌, List, [], ◌∷◌, flat_map, length, get_or, slice_get, refl, sym, ap, ap₂, subst}
use Rattle.std.proofs.Common.{◌∙◌, inl, inr, arith, None, Some, option_map, nat_eq}
use Rattle.std.proofs.lemmas.Bool.{eqb-true, and_parts}
use Rattle.std.proofs.lemmas.Option.{slice_get-map, get_or_from_slice_get, slice_get-get_or}
use Rattle.std.specs.List.{list_all}
use Rattle.multisets.specs.Bags.{IsIn}
use Rattle.graph_ast.specs.declared.catalog.Catalog.{Catalog}
use Rattle.graph_ast.specs.declared.catalog.Graph.{Graph}
use Rattle.graph_ast.specs.declared.catalog.Element.{Element}
use Rattle.graph_ast.specs.declared.catalog.EdgeElement.{EdgeElement}
use Rattle.graph_ast.specs.declared.catalog.End.{End}
use Rattle.graph_ast.specs.declared.checked.CheckedPath.{CheckedPath}
use Rattle.graph_ast.specs.declared.checked.Operand.{Operand}
use Rattle.graph_ast.specs.declared.checked.Piece.{Piece}
use Rattle.graph_ast.specs.declared.checked.Piece.TheVariants as form
use Rattle.graph_ast.specs.declared.checked.Pattern.{Pattern}
use Rattle.graph_ast.specs.declared.query.Direction.{Direction}
use Rattle.graph_ast.specs.declared.query.Direction.TheVariants.{Right, Left, Either, Any as AnyDirection, Undirected}
use Rattle.graph_ast.specs.declared.blocks.Alternative.{Alternative}
use Rattle.graph_ast.specs.declared.blocks.PathBlock.{PathBlock}
use Rattle.graph_ast.specs.Lookups.{graph_at, vertex_element, edge_element, no_element}
use Rattle.graph_ast.specs.Catalogs.{IsValidEnd, IsValidGraph}
use Rattle.graph_ast.specs.Labels.{holds_where_given}
use Rattle.graph_meaning.specs.Readings.{allows}
use Rattle.graph_meaning.specs.Choices.{PlacedPiece, edges_in, placed, iterations, operand_at, expansion_of}
use Rattle.graph_meaning.specs.Blocks.{may_lead, may_meet, may_meet_piece}
use Rattle.path_lowering.specs.declared.spots.Kind.{Kind}
use Rattle.path_lowering.specs.declared.spots.Kind.TheVariants.{Vertex, Edge}
use Rattle.path_lowering.specs.declared.spots.Spot.{Spot}
use Rattle.path_lowering.specs.Spots.{element_of_kind, element_at, spots_along}
use Rattle.path_lowering.specs.Emitted.{goes_right, goes_left, edge_conditions, between}
use Rattle.path_lowering.specs.Shortest.{spot_at}
use Rattle.path_lowering.specs.Shown.{count_of_kind, AreColumnsIn, IsEndOf, IsJoint, HasProperties, HasKey}
use Rattle.path_lowering.specs.Unrolled.{IsReadable, IsBetween, IsPieceAt}
use Rattle.path_lowering.specs.Layable.{IsLayable}
use Rattle.path_lowering.proofs.Facts.{in_at, element_valid}
use Rattle.path_lowering.proofs.EdgeLemmas.{equally_many}
use Rattle.path_lowering.proofs.PieceLemmas.{Seat, numbers_at, got_in}
use Rattle.path_lowering.proofs.BlockLemmas.{vertex_seat, edge_seat, numbers_along}

got_within : {X : Type 0} (xs : List X) (i : ℕ) (x : X) → slice_get xs i ≡ Some x → i < length xs
got_within [] i x h = cc
got_within (y ∷ ys) zero x h = omega arith
got_within (y ∷ ys) (suc i) x h = let k = got_within ys i x h in omega arith

eqb-is : (a b : ℕ) → nat_eq a b ≡ true → a ≡ b
eqb-is a b h = eqb-true _ _ h

-- a direction that is not read rightwards is read leftwards
one_of : (direction : Direction) (m n : Bool) → allows direction m n ≡ true → (goes_right direction && m) ≡ false → (goes_left direction && n) ≡ true
one_of Right m n h k = cc
one_of Left m n h k = h
one_of Either true n h k = cc
one_of Either false n h k = h
one_of AnyDirection true n h k = cc
one_of AnyDirection false n h k = h
one_of Undirected m n h k = cc

module _ (catalog : Catalog) (graph : Graph) (valid : IsValidGraph catalog graph) where
  pub has_properties : (spot : Spot) → spot.element < count_of_kind graph spot.kind → HasProperties catalog graph spot
  has_properties spot there =
      let ok = element_valid catalog graph valid spot.kind spot.element there in
      record { there = there; table = ok.table_there; properties = ok.property_columns }

  pub key_columns : (spot : Spot) → spot.element < count_of_kind graph spot.kind → AreColumnsIn catalog (element_at graph spot) (element_at graph spot).key
  key_columns spot there =
      let ok = element_valid catalog graph valid spot.kind spot.element there in
      record { table = ok.table_there; places = ok.key.places }

  pub has_key : (spot : Spot) → spot.element < count_of_kind graph spot.kind → HasKey catalog graph spot
  has_key spot there = record { there = there; key = key_columns spot there }

  module _ (edge : Spot) (kind : edge.kind ≡ Edge) (there : edge.element < count_of_kind graph edge.kind) where
    abbrev own : EdgeElement
    own = edge_element graph edge.element

    below : edge.element < length graph.edges
    below = subst (λ k. edge.element < count_of_kind graph k) kind there

    own_in : IsIn own graph.edges
    own_in = in_at graph.edges edge.element (record { element = no_element; source = record { columns = []; vertex = 0 }; destination = record { columns = []; vertex = 0 } }) below

    element_is : element_at graph edge ≡ own.element
    element_is = ap (λ k. element_of_kind graph k edge.element) kind

    end_of : (end : End) → IsValidEnd catalog graph own.element end → (vertex : Spot) → vertex.kind ≡ Vertex → vertex.element < count_of_kind graph vertex.kind
        → end.vertex ≡ vertex.element → IsEndOf catalog graph edge end vertex
    end_of end ok vertex vertex_kind vertex_there is = record {
      edge_there = there;
      vertex_there = vertex_there;
      columns = subst (λ (x : Element). AreColumnsIn catalog x end.columns) (sym element_is)
          (record {
            table = subst (λ (x : Element). x.table < length catalog.tables) element_is (element_valid catalog graph valid edge.kind edge.element there).table_there;
            places = ok.columns.places;
          });
      key = key_columns vertex vertex_there;
      many = equally_many _ _ end.columns (vertex_element graph end.vertex).key ok.classes ∙ ap (λ n. length (vertex_element graph n).key) is
          ∙ sym (ap (λ k. length (element_of_kind graph k vertex.element).key) vertex_kind);
    }

    joint : (from to : Spot) → from.kind ≡ Vertex → to.kind ≡ Vertex → from.element < count_of_kind graph from.kind → to.element < count_of_kind graph to.kind
        → may_lead own (Some from.element) (Some to.element) ≡ true → IsJoint catalog graph from edge to
    joint from to from_kind to_kind from_there to_there may =
        let p = and_parts _ _ may in record {
          there = below;
          source = end_of own.source (valid.sources own own_in) from from_kind from_there (eqb-is own.source.vertex from.element p.0);
          destination = end_of own.destination (valid.destinations own own_in) to to_kind to_there (eqb-is own.destination.vertex to.element p.1);
        }

    pub readable : (direction : Direction) (left right : Spot) → left.kind ≡ Vertex → right.kind ≡ Vertex → left.element < count_of_kind graph left.kind
        → right.element < count_of_kind graph right.kind
        → allows direction (may_lead own (Some left.element) (Some right.element)) (may_lead own (Some right.element) (Some left.element)) ≡ true
        → IsReadable catalog graph direction left edge right
    readable direction left right left_kind right_kind left_there right_there may = record {
      there = below;
      rightward = λ h. joint left right left_kind right_kind left_there right_there (and_parts _ _ h).1;
      leftward = λ h. joint right left right_kind left_kind right_there left_there (and_parts _ _ h).1;
      one_way = one_of direction (may_lead own (Some left.element) (Some right.element)) (may_lead own (Some right.element) (Some left.element)) may;
    }

-- the spot at a place
seat_is : (spots : List Spot) (place : ℕ) (kind : Kind) (seat : Seat spots place kind) → spot_at spots place ≡ seat.spot
seat_is spots place kind seat = get_or_from_slice_get spots place seat.spot (record { kind = Vertex; element = 0; item = 0 }) seat.at

within_seat : (spots : List Spot) (place : ℕ) (kind : Kind) → Seat spots place kind → place < length spots
within_seat spots place kind seat = got_within spots place seat.spot seat.at

module _ (catalog : Catalog) (graph : Graph) (valid : IsValidGraph catalog graph) (spots : List Spot)
    (there : (spot : Spot) → IsIn spot spots → spot.element < count_of_kind graph spot.kind) where
  number_there : (place : ℕ) (kind : Kind) (seat : Seat spots place kind) → slice_get (numbers_at spots) place ≡ Some seat.spot.element
  number_there place kind seat = slice_get-map (λ spot. spot.element) spots place ∙ ap (option_map (λ spot. spot.element)) seat.at

  between_seats : (place : ℕ) (direction : Direction) (pattern : Pattern) → 1 ≤ place → Seat spots (place - 1) Vertex → Seat spots place Edge → Seat spots (place + 1) Vertex
      → may_meet_piece graph (numbers_at spots) (place, form.Edge direction pattern) ≡ true → IsBetween catalog graph spots place direction
  between_seats place direction pattern behind left edge right may =
      let is = sym (ap (λ o. elim o [ None ↦ true | Some n ↦ may_meet graph (numbers_at spots) place (form.Edge direction pattern) n ]) (number_there place Edge edge)
      ∙ ap₂ (λ l r. holds_where_given (edge_element graph edge.spot.element).element.labels pattern.label
      && allows direction (may_lead (edge_element graph edge.spot.element) l r) (may_lead (edge_element graph edge.spot.element) r l))
      (number_there (place - 1) Vertex left) (number_there (place + 1) Vertex right)) ∙ may in
      record {
        behind = behind;
        within = within_seat spots (place + 1) Vertex right;
        readable =
            subst (λ (s : Spot). IsReadable catalog graph direction s (spot_at spots place) (spot_at spots (place + 1))) (sym (seat_is spots (place - 1) Vertex left))
            (subst (λ (s : Spot). IsReadable catalog graph direction left.spot s (spot_at spots (place + 1))) (sym (seat_is spots place Edge edge))
            (subst (λ (s : Spot). IsReadable catalog graph direction left.spot edge.spot s) (sym (seat_is spots (place + 1) Vertex right))
            (readable catalog graph valid edge.spot edge.kind_is (there edge.spot (got_in spots place edge.spot edge.at)) direction left.spot right.spot left.kind_is right.kind_is
            (there left.spot (got_in spots (place - 1) left.spot left.at)) (there right.spot (got_in spots (place + 1) right.spot right.at)) (and_parts _ _ is).1)));
      }

  module _ (edges : ℕ) (vertex_seat : (i : ℕ) → i ≤ edges → Seat spots (2 * i) Vertex) (edge_seat : (i : ℕ) → i < edges → Seat spots (2 * i + 1) Edge) where
    pub pieces_there : (j : ℕ) (pieces : List Piece) → j + edges_in pieces ≤ edges → list_all (may_meet_piece graph (numbers_at spots)) (placed j pieces) ≡ true
        → (piece : PlacedPiece) → IsIn piece (placed j pieces) → IsPieceAt catalog graph spots piece
    pieces_there j [] within may piece h = absurd h
    pieces_there j (form.Vertex pattern ∷ pieces) within may piece (inl e) = λ direction other is. let k : form.Vertex pattern ≡ form.Edge direction other = ap (λ p. p.1) e
        ∙ is in cc
    pieces_there j (form.Vertex pattern ∷ pieces) within may piece (inr h) = pieces_there j pieces within (and_parts _ _ may).1 piece h
    pieces_there j (form.Edge direction pattern ∷ pieces) within may piece (inl e) = λ turn other is.
        let k : form.Edge direction pattern ≡ form.Edge turn other = ap (λ p. p.1) e ∙ is in
        let same : direction ≡ turn = cc in
        subst (λ (p : PlacedPiece). IsBetween catalog graph spots p.0 turn) e
        (subst (λ (d : Direction). IsBetween catalog graph spots (2 * j + 1) d) same
        (between_seats (2 * j + 1) direction pattern (omega arith) (subst (λ n. Seat spots n Vertex) (omega arith) (vertex_seat j (omega arith))) (edge_seat j (omega arith))
        (subst (λ n. Seat spots n Vertex) (omega arith) (vertex_seat (suc j) (omega arith))) (and_parts _ _ may).0))
    pieces_there j (form.Edge direction pattern ∷ pieces) within may piece (inr h) = pieces_there (suc j) pieces (omega arith) (and_parts _ _ may).1 piece h

-- the element patterns of a choice of a path block
pub choice_there : (catalog : Catalog) (graph : Graph) → IsValidGraph catalog graph → (path : CheckedPath) (part : PathBlock) → IsLayable graph path part → (items : List ℕ)
    → length part.elements ≤ length items → (choice : Alternative) → IsIn choice part.alternatives → (piece : PlacedPiece) → IsIn piece (expansion_of path choice).pieces
    → IsPieceAt catalog graph (spots_along Vertex part.elements items) piece
choice_there catalog graph valid path part ok items many choice h =
    pieces_there catalog graph valid (spots_along Vertex part.elements items) (ok.elements items many) (expansion_of path choice).edges
    (λ i low. vertex_seat part.elements items i (omega (arith, ok.is_part.sized choice h)) many)
    (λ i low. edge_seat part.elements items i (omega (arith, ok.is_part.sized choice h)) many)
    0 (flat_map (λ iteration. iteration.pieces) (iterations (operand_at path choice.operand).steps choice.counts)) (omega arith)
    (ap (λ numbers. list_all (may_meet_piece graph numbers) (expansion_of path choice).pieces) (numbers_along Vertex part.elements items many)
    ∙ (and_parts _ _ (ok.is_part.feasible choice h)).0)

-- the conditions between places that are there
pub between_is : (catalog : Catalog) (graph : Graph) (prefix : ℕ) (spots : List Spot) (place : ℕ) (direction : Direction) → IsBetween catalog graph spots place direction
    → between catalog graph prefix direction (slice_get spots (place - 1)) (slice_get spots place) (slice_get spots (place + 1))
    ≡ edge_conditions catalog graph prefix direction (spot_at spots (place - 1)) (spot_at spots place) (spot_at spots (place + 1))
between_is catalog graph prefix spots place direction ok =
    let d : Spot = record { kind = Vertex; element = 0; item = 0 } in
    let behind = ok.behind in
    let within = ok.within in
    ap₂ (λ l r. between catalog graph prefix direction l (slice_get spots place) r) (slice_get-get_or spots (place - 1) d (omega arith))
    (slice_get-get_or spots (place + 1) d (omega arith))
    ∙ ap (λ o. between catalog graph prefix direction (Some (spot_at spots (place - 1))) o (Some (spot_at spots (place + 1)))) (slice_get-get_or spots place d (omega arith))

get_any : {X : Type 0} (xs : List X) (i : ℕ) (d e : X) → i < length xs → get_or xs i d ≡ get_or xs i e
get_any [] i d e h = absurd (omega arith)
get_any (x ∷ xs) zero d e h = refl
get_any (x ∷ xs) (suc i) d e h = get_any xs i d e (omega arith)

-- the operand that is read at a place
pub operand_is : (path : CheckedPath) (i : ℕ) (x : Operand) (xs : List Operand) → xs ≡ path.operands → x ≡ get_or xs i x → i < length path.operands → x ≡ operand_at path i
operand_is path i x xs e is h = is ∙ ap (λ l. get_or l i x) e ∙ get_any path.operands i x (record { steps = []; conditions = [] }) h

-- the graph that is read at a place
pub graph_is : (catalog : Catalog) (i : ℕ) (x : Graph) (xs : List Graph) → xs ≡ catalog.graphs → x ≡ get_or xs i x → i < length catalog.graphs → x ≡ graph_at catalog i
graph_is catalog i x xs e is h = is ∙ ap (λ l. get_or l i x) e ∙ get_any catalog.graphs i x (record { name = []; vertices = []; edges = [] }) h

-- the table of the first vertex element is there
pub first_table : (catalog : Catalog) (graph : Graph) → IsValidGraph catalog graph → (vertex_element graph 0).table < length catalog.tables
first_table catalog graph valid = (element_valid catalog graph valid Vertex 0 valid.some_vertex).table_there
