-- The conditions of a block are made of comparisons of columns of one class: what holds of these, and is kept by AND and OR, holds of all.
use Rattle.std.proofs.Common.{◌≡◌, ℕ, suc, ◌+◌, ◌-◌, ◌*◌, ◌<◌, ◌≤◌, Bool, true, false, ◌&&◌, not, cond, List, [], ◌∷◌, ◌++◌, map, filter, flat_map, length, refl, sym, ap, ap₂}
use Rattle.std.proofs.Common.{subst, ◌∙◌, inl, inr, nat_eq, None, Some, option_map, arith}
use Rattle.std.specs.Prelude.{slice_get}
use Rattle.std.specs.List.{list_all, list_any}
use Rattle.std.proofs.lemmas.Bool.{and_parts, eqb-true}
use Rattle.std.proofs.lemmas.List.Folds.{list_all-append}
use Rattle.std.proofs.lemmas.Option.{slice_get-map}
use Rattle.multisets.specs.Bags.{IsIn}
use Rattle.expr_tree.specs.declared.tree.Comparison.{Comparison}
use Rattle.expr_tree.specs.declared.tree.Comparison.TheVariants.{Equal, NotEqual}
use Rattle.expr_tree.specs.declared.tree.Expr.TheVariants.{Leaf, Compare, All, Any}
use Rattle.graph_ast.specs.declared.catalog.Catalog.{Catalog}
use Rattle.graph_ast.specs.declared.catalog.Table.{Table}
use Rattle.graph_ast.specs.declared.catalog.Graph.{Graph}
use Rattle.graph_ast.specs.declared.catalog.Element.{Element}
use Rattle.graph_ast.specs.declared.catalog.EdgeElement.{EdgeElement}
use Rattle.graph_ast.specs.declared.catalog.End.{End}
use Rattle.graph_ast.specs.declared.checked.Piece.{Piece}
use Rattle.graph_ast.specs.declared.checked.Piece.TheVariants as form
use Rattle.graph_ast.specs.declared.checked.Pattern.{Pattern}
use Rattle.graph_ast.specs.declared.query.Direction.{Direction}
use Rattle.graph_ast.specs.declared.query.Direction.TheVariants.{Right, Left, Either, Any as AnyDirection, Undirected}
use Rattle.graph_ast.specs.declared.query.Mode.{Mode}
use Rattle.graph_ast.specs.declared.query.Mode.TheVariants as mode
use Rattle.graph_ast.specs.declared.blocks.Tags.{Tags}
use Rattle.graph_ast.specs.Catalogs.{IsValidElement, IsValidEnd, IsValidGraph}
use Rattle.graph_ast.specs.Labels.{holds_where_given}
use Rattle.graph_ast.specs.Lookups.{table_at, vertex_element, edge_element, no_element, classes_at}
use Rattle.graph_meaning.specs.Bindings.{without_last}
use Rattle.graph_meaning.specs.Blocks.{may_lead, may_meet, may_meet_piece}
use Rattle.graph_meaning.specs.Choices.{edges_in, placed}
use Rattle.graph_meaning.specs.Lists.{agree, all_same, tagged}
use Rattle.graph_meaning.specs.Readings.{allows}
use Rattle.graph_meaning.proofs.Members.{same_head, same_rest}
use Rattle.path_lowering.specs.declared.spots.Kind.{Kind}
use Rattle.path_lowering.specs.declared.spots.Kind.TheVariants.{Vertex, Edge}
use Rattle.path_lowering.specs.declared.spots.Spot.{Spot}
use Rattle.path_lowering.specs.Spots.{element_of_kind, element_at, same_kind}
use Rattle.path_lowering.specs.Emitted.{SqlCondition, any_of, all_of, goes_right, goes_left, leaf_of, compared_columns, meets_end, leads_from, edge_conditions, read_either}
use Rattle.path_lowering.specs.Emitted.{between}
use Rattle.path_lowering.specs.Emitted.{piece_conditions, differing, all_differing, simply_differing, edge_spots, vertex_spots, is_edge_spot, is_vertex_spot, mode_conditions}
use Rattle.path_lowering.specs.Emitted.{same_key, all_same_key, sharing_conditions}
use Rattle.path_lowering.specs.Shown.{count_of_kind}
use Rattle.path_lowering.specs.Blocks.{is_empty, shared_outside}
use Rattle.path_lowering.specs.Apart.{is_in_all, without, apart}
use Rattle.path_lowering.specs.Lowered.{in_one}
use Rattle.path_lowering.specs.Sound.{IsBuilding}
use Rattle.path_lowering.proofs.ConditionLemmas.{tagged_map, tagged_in}
use Rattle.path_lowering.proofs.Facts.{in_at, in_map, element_valid}
use Rattle.path_lowering.proofs.PieceLemmas.{Seat, numbers_at, got_in}
use Rattle.path_lowering.proofs.PlacingLemmas.{and_join, each_of, of_each, in_kept}
use Rattle.path_lowering.proofs.SharingLemmas.{kind_same}

pub append_fine : (fine : SqlCondition → Bool) (xs ys : List SqlCondition) → list_all fine xs ≡ true → list_all fine ys ≡ true → list_all fine (xs ++ ys) ≡ true
append_fine fine xs ys p q = list_all-append fine xs ys ∙ and_join _ _ p q

pub flat_fine : {X : Type 0} (fine : SqlCondition → Bool) (f : X → List SqlCondition) (xs : List X) → ((x : X) → IsIn x xs → list_all fine (f x) ≡ true)
    → list_all fine (flat_map f xs) ≡ true
flat_fine fine f [] h = refl
flat_fine fine f (x ∷ xs) h = append_fine fine (f x) (flat_map f xs) (h x (inl refl)) (flat_fine fine f xs (λ y k. h y (inr k)))

filter_fine : (fine p : SqlCondition → Bool) (xs : List SqlCondition) → list_all fine xs ≡ true → list_all fine (filter p xs) ≡ true
filter_fine fine p xs h = of_each fine (filter p xs) (λ c k. each_of fine xs h c (in_kept p xs c k).0)

module _ (fine : SqlCondition → Bool) (all : (es : List SqlCondition) → 2 ≤ length es → list_all fine es ≡ true → fine (All es) ≡ true)
    (any : (es : List SqlCondition) → 2 ≤ length es → list_all fine es ≡ true → fine (Any es) ≡ true) where
  pub any_of_fine : (es : List SqlCondition) → 1 ≤ length es → list_all fine es ≡ true → fine (any_of es) ≡ true
  any_of_fine [] some h = absurd (omega (arith, some))
  any_of_fine (e ∷ []) some h = (and_parts (fine e) true h).0
  any_of_fine (e ∷ f ∷ es) some h = any (e ∷ f ∷ es) (omega arith) h

  all_of_fine : (e : SqlCondition) (es : List SqlCondition) → list_all fine (e ∷ es) ≡ true → fine (all_of (e ∷ es)) ≡ true
  all_of_fine e [] h = (and_parts (fine e) true h).0
  all_of_fine e (f ∷ es) h = all (e ∷ f ∷ es) (omega arith) h

  rests_fine : (rests : List (List SqlCondition)) → list_any is_empty rests ≡ false → list_all (list_all fine) rests ≡ true → list_all fine (map all_of rests) ≡ true
  rests_fine [] none h = refl
  rests_fine ([] ∷ rests) none h = cc
  rests_fine ((e ∷ es) ∷ rests) none h =
      let p = and_parts (list_all fine (e ∷ es)) (list_all (list_all fine) rests) h in and_join _ _ (all_of_fine e es p.0) (rests_fine rests none p.1)

  shared_fine : (common : List SqlCondition) (rests : List (List SqlCondition)) → list_all fine common ≡ true → 1 ≤ length rests → list_all (list_all fine) rests ≡ true
      → list_all fine (shared_outside common rests) ≡ true
  shared_fine common rests c some h = go (list_any is_empty rests) refl
    where
      go : (b : Bool) → list_any is_empty rests ≡ b → list_all fine (cond b common (common ++ any_of (map all_of rests) ∷ [])) ≡ true
      go true e = c
      go false e =
          append_fine fine common (any_of (map all_of rests) ∷ []) c
          (and_join _ _ (any_of_fine (map all_of rests) (subst (λ n. 1 ≤ n) (sym (Rattle.std.proofs.Math.ListN.length-map rests all_of)) some) (rests_fine rests e h)) refl)

  withouts_fine : (common : List SqlCondition) (others : List (List SqlCondition)) → list_all (list_all fine) others ≡ true
      → list_all (list_all fine) (map (without common) others) ≡ true
  withouts_fine common [] h = refl
  withouts_fine common (other ∷ others) h =
      let p = and_parts (list_all fine other) (list_all (list_all fine) others) h in and_join _ _ (filter_fine fine _ other p.0) (withouts_fine common others p.1)

  apart_fine : (alternatives : List (List SqlCondition)) → 1 ≤ length alternatives → list_all (list_all fine) alternatives ≡ true → list_all fine (apart alternatives) ≡ true
  apart_fine [] some h = absurd (omega (arith, some))
  apart_fine (a ∷ []) some h = (and_parts (list_all fine a) true h).0
  apart_fine (a ∷ b ∷ more) some h =
      let p = and_parts (list_all fine a) (list_all (list_all fine) (b ∷ more)) h in
      shared_fine (filter (is_in_all (b ∷ more)) a) (filter (λ condition. not (is_in_all (b ∷ more) condition)) a ∷ map (without (filter (is_in_all (b ∷ more)) a)) (b ∷ more))
      (filter_fine fine _ a p.0) (omega arith) (and_join _ _ (filter_fine fine _ a p.0) (withouts_fine (filter (is_in_all (b ∷ more)) a) (b ∷ more) p.1))

  in_one_fine : (alternatives : List (List SqlCondition)) → 1 ≤ length alternatives → list_all (list_all fine) alternatives ≡ true → list_all fine (in_one alternatives) ≡ true
  in_one_fine [] some h = absurd (omega (arith, some))
  in_one_fine (a ∷ []) some h = (and_parts (list_all fine a) true h).0
  in_one_fine (a ∷ b ∷ more) some h = shared_fine [] (a ∷ b ∷ more) refl (omega arith) h

pub apart_builds : IsBuilding apart
apart_builds = apart_fine

pub in_one_builds : IsBuilding in_one
in_one_builds = in_one_fine

one_of : (direction : Direction) (m n : Bool) → allows direction m n ≡ true → (goes_right direction && m) ≡ false → (goes_left direction && n) ≡ true
one_of Right m n h k = cc
one_of Left m n h k = h
one_of Either true n h k = cc
one_of Either false n h k = h
one_of AnyDirection true n h k = cc
one_of AnyDirection false n h k = h
one_of Undirected m n h k = cc

same_all : {X : Type 0} (same : X → X → Bool) → ((x y : X) → same x y ≡ true → x ≡ y) → (xs : List X) → all_same same xs ≡ true → (x y : X) → IsIn x xs → IsIn y xs → x ≡ y
same_all same tells [] h x y p q = absurd p
same_all same tells (z ∷ zs) h x y p q = sym (at x p) ∙ at y q
  where
    at : (w : _) → IsIn w (z ∷ zs) → z ≡ w
    at w (inl e) = e
    at w (inr k) = tells z w (each_of (same z) zs h w k)

-- what places of one name have in common
alike_at : {X : Type 0} (same : X → X → Bool) (is : (x y : X) → same x y ≡ true → x ≡ y) (f : Spot → X) (names : List (List ℕ)) (tags : List Tags) (spots : List Spot)
    → agree same names tags (map f spots) ≡ true → (name : List ℕ) → IsIn name names → (a b : Spot) → IsIn a (tagged name tags spots) → IsIn b (tagged name tags spots) → f a ≡ f b
alike_at same is f names tags spots all name there a b h k =
    let own : all_same same (map f (tagged name tags spots)) ≡ true = ap (all_same same) (sym (tagged_map f name tags spots))
    ∙ each_of (λ n. all_same same (tagged n tags (map f spots))) names all name there in
    same_all same is (map f (tagged name tags spots)) own (f a) (f b) (in_map f a (tagged name tags spots) h) (in_map f b (tagged name tags spots) k)

module _ (catalog : Catalog) (graph : Graph) (prefix : ℕ) (valid : IsValidGraph catalog graph) (fine : SqlCondition → Bool) (spots : List Spot) where
  abbrev width : Spot → ℕ
  width spot = length (table_at catalog (element_at graph spot).table).columns

  abbrev at : Spot → ℕ → SqlCondition
  at spot place = Leaf (leaf_of catalog graph prefix spot place)

  -- the elements of the places are there; comparisons of columns of one class are fine, and so are AND and OR of two or more that are
  pub record Accepts : Type 0 where
    pub there : (spot : Spot) → IsIn spot spots → spot.element < count_of_kind graph spot.kind
    pub pair : (op : Comparison) (a b : Spot) (x y : ℕ) → IsIn a spots → IsIn b spots → x < width a → y < width b
        → (leaf_of catalog graph prefix a x).class ≡ (leaf_of catalog graph prefix b y).class → fine (Compare op (at a x) (at b y)) ≡ true
    pub all : (es : List SqlCondition) → 2 ≤ length es → list_all fine es ≡ true → fine (All es) ≡ true
    pub any : (es : List SqlCondition) → 2 ≤ length es → list_all fine es ≡ true → fine (Any es) ≡ true

  module _ (accepts : Accepts) where
    abbrev table_of : Spot → Table
    table_of spot = table_at catalog (element_at graph spot).table

    element_ok : (spot : Spot) → IsIn spot spots → IsValidElement catalog (element_at graph spot)
    element_ok spot h = element_valid catalog graph valid spot.kind spot.element (accepts.there spot h)

    pairs_fine : (op : Comparison) (a b : Spot) → IsIn a spots → IsIn b spots → (xs ys : List ℕ) → ((x : ℕ) → IsIn x xs → x < width a) → ((y : ℕ) → IsIn y ys → y < width b)
        → classes_at (table_of a) xs ≡ classes_at (table_of b) ys → list_all fine (compared_columns catalog graph prefix op a xs b ys) ≡ true
    pairs_fine op a b p q [] ys xs_there ys_there same = refl
    pairs_fine op a b p q (x ∷ xs) [] xs_there ys_there same = refl
    pairs_fine op a b p q (x ∷ xs) (y ∷ ys) xs_there ys_there same =
        and_join _ _ (accepts.pair op a b x y p q (xs_there x (inl refl)) (ys_there y (inl refl)) (same_head same))
        (pairs_fine op a b p q xs ys (λ z k. xs_there z (inr k)) (λ z k. ys_there z (inr k)) (same_rest same))

    some_pair : (op : Comparison) (a b : Spot) (xs ys : List ℕ) → 1 ≤ length xs → 1 ≤ length ys → 1 ≤ length (compared_columns catalog graph prefix op a xs b ys)
    some_pair op a b [] ys p q = p
    some_pair op a b (x ∷ xs) [] p q = q
    some_pair op a b (x ∷ xs) (y ∷ ys) p q = omega arith

    -- ---- edges
    module _ (edge : Spot) (kind : edge.kind ≡ Edge) (h : IsIn edge spots) where
      abbrev own : EdgeElement
      own = edge_element graph edge.element

      below : edge.element < length graph.edges
      below = subst (λ k. edge.element < count_of_kind graph k) kind (accepts.there edge h)

      own_in : IsIn own graph.edges
      own_in = in_at graph.edges edge.element (record { element = no_element; source = record { columns = []; vertex = 0 }; destination = record { columns = []; vertex = 0 } })
          below

      element_is : element_at graph edge ≡ own.element
      element_is = ap (λ k. element_of_kind graph k edge.element) kind

      vertex_is : (vertex : Spot) → vertex.kind ≡ Vertex → element_at graph vertex ≡ vertex_element graph vertex.element
      vertex_is vertex vertex_kind = ap (λ k. element_of_kind graph k vertex.element) vertex_kind

      end_fine : (end : End) → IsValidEnd catalog graph own.element end → (vertex : Spot) → vertex.kind ≡ Vertex → IsIn vertex spots → end.vertex ≡ vertex.element
          → list_all fine (meets_end catalog graph prefix edge end vertex) ≡ true
      end_fine end ok vertex vertex_kind k is =
          pairs_fine Equal edge vertex h k end.columns (element_at graph vertex).key
          (λ x m. subst (λ (e : Element). x < length (table_at catalog e.table).columns) (sym element_is) (ok.columns.places x m))
          (element_ok vertex k).key.places
          (ap (λ (e : Element). classes_at (table_at catalog e.table) end.columns) element_is ∙ ok.classes
          ∙ ap (λ n. classes_at (table_at catalog (vertex_element graph n).table) (vertex_element graph n).key) is
          ∙ sym (ap (λ (e : Element). classes_at (table_at catalog e.table) e.key) (vertex_is vertex vertex_kind)))

      end_some : (end : End) → IsValidEnd catalog graph own.element end → (vertex : Spot) → IsIn vertex spots → 1 ≤ length (meets_end catalog graph prefix edge end vertex)
      end_some end ok vertex k = some_pair Equal edge vertex end.columns (element_at graph vertex).key ok.columns.some (element_ok vertex k).key.some

      module _ (from to : Spot) (from_kind : from.kind ≡ Vertex) (to_kind : to.kind ≡ Vertex) (from_in : IsIn from spots) (to_in : IsIn to spots) where
        leads_fine : may_lead own (Some from.element) (Some to.element) ≡ true → list_all fine (leads_from catalog graph prefix from edge to) ≡ true
        leads_fine may =
            let p = and_parts (nat_eq own.source.vertex from.element) (nat_eq own.destination.vertex to.element) may in
            append_fine fine _ _ (end_fine own.source (valid.sources own own_in) from from_kind from_in (eqb-true own.source.vertex from.element p.0))
            (end_fine own.destination (valid.destinations own own_in) to to_kind to_in (eqb-true own.destination.vertex to.element p.1))

        leads_two : 2 ≤ length (leads_from catalog graph prefix from edge to)
        leads_two =
            let a = end_some own.source (valid.sources own own_in) from from_in in
            let b = end_some own.destination (valid.destinations own own_in) to to_in in
            let n = Rattle.std.proofs.lemmas.List.length-append (meets_end catalog graph prefix edge own.source from) (meets_end catalog graph prefix edge own.destination to) in
            omega (arith, a, b, n)

      edge_fine : (direction : Direction) (left right : Spot) → left.kind ≡ Vertex → right.kind ≡ Vertex → IsIn left spots → IsIn right spots
          → allows direction (may_lead own (Some left.element) (Some right.element)) (may_lead own (Some right.element) (Some left.element)) ≡ true
          → list_all fine (edge_conditions catalog graph prefix direction left edge right) ≡ true
      edge_fine direction left right left_kind right_kind left_in right_in may =
          go (goes_right direction && may_lead own (Some left.element) (Some right.element)) (goes_left direction && may_lead own (Some right.element) (Some left.element)) refl
          refl
        where
          go : (r l : Bool) → (goes_right direction && may_lead own (Some left.element) (Some right.element)) ≡ r
              → (goes_left direction && may_lead own (Some right.element) (Some left.element)) ≡ l
              → list_all fine (read_either r l (leads_from catalog graph prefix left edge right) (leads_from catalog graph prefix right edge left)) ≡ true
          go true true e f =
              and_join _ _ (accepts.any _ (omega arith)
              (and_join _ _ (accepts.all _ (leads_two left right left_kind right_kind left_in right_in)
              (leads_fine left right left_kind right_kind left_in right_in (and_parts _ _ e).1))
              (and_join _ _ (accepts.all _ (leads_two right left right_kind left_kind right_in left_in)
              (leads_fine right left right_kind left_kind right_in left_in (and_parts _ _ f).1)) refl))) refl
          go true false e f = leads_fine left right left_kind right_kind left_in right_in (and_parts _ _ e).1
          go false l e f =
              leads_fine right left right_kind left_kind right_in left_in
              (and_parts _ _ (one_of direction (may_lead own (Some left.element) (Some right.element)) (may_lead own (Some right.element) (Some left.element)) may e)).1

    -- ---- the places of a path
    module _ (some : List Spot) (among : (spot : Spot) → IsIn spot some → IsIn spot spots) where
      number_there : (place : ℕ) (kind : Kind) (seat : Seat some place kind) → slice_get (numbers_at some) place ≡ Some seat.spot.element
      number_there place kind seat = slice_get-map (λ spot. spot.element) some place ∙ ap (option_map (λ spot. spot.element)) seat.at

      seat_in : (place : ℕ) (kind : Kind) (seat : Seat some place kind) → IsIn seat.spot spots
      seat_in place kind seat = among seat.spot (got_in some place seat.spot seat.at)

      between_fine : (place : ℕ) (direction : Direction) (pattern : Pattern) → Seat some (place - 1) Vertex → Seat some place Edge → Seat some (place + 1) Vertex
          → may_meet_piece graph (numbers_at some) (place, form.Edge direction pattern) ≡ true
          → list_all fine (piece_conditions catalog graph prefix some (place, form.Edge direction pattern)) ≡ true
      between_fine place direction pattern left edge right may =
          let is = sym (ap (λ o. elim o [ None ↦ true | Some n ↦ may_meet graph (numbers_at some) place (form.Edge direction pattern) n ]) (number_there place Edge edge)
          ∙ ap₂ (λ l r. holds_where_given (edge_element graph edge.spot.element).element.labels pattern.label
          && allows direction (may_lead (edge_element graph edge.spot.element) l r) (may_lead (edge_element graph edge.spot.element) r l))
          (number_there (place - 1) Vertex left) (number_there (place + 1) Vertex right)) ∙ may in
          ap₂ (λ l r. list_all fine (between catalog graph prefix direction l (slice_get some place) r)) left.at right.at
          ∙ ap (λ o. list_all fine (between catalog graph prefix direction (Some left.spot) o (Some right.spot))) edge.at
          ∙ edge_fine edge.spot edge.kind_is (seat_in place Edge edge) direction left.spot right.spot left.kind_is right.kind_is (seat_in (place - 1) Vertex left)
          (seat_in (place + 1) Vertex right) (and_parts _ _ is).1

      module _ (edges : ℕ) (vertex_seat : (i : ℕ) → i ≤ edges → Seat some (2 * i) Vertex) (edge_seat : (i : ℕ) → i < edges → Seat some (2 * i + 1) Edge) where
        pub pieces_fine : (j : ℕ) (pieces : List Piece) → j + edges_in pieces ≤ edges → list_all (may_meet_piece graph (numbers_at some)) (placed j pieces) ≡ true
            → list_all fine (flat_map (piece_conditions catalog graph prefix some) (placed j pieces)) ≡ true
        pieces_fine j [] within may = refl
        pieces_fine j (form.Vertex pattern ∷ pieces) within may = pieces_fine j pieces within (and_parts _ _ may).1
        pieces_fine j (form.Edge direction pattern ∷ pieces) within may =
            append_fine fine (piece_conditions catalog graph prefix some (2 * j + 1, form.Edge direction pattern))
            (flat_map (piece_conditions catalog graph prefix some) (placed (suc j) pieces))
            (between_fine (2 * j + 1) direction pattern (subst (λ n. Seat some n Vertex) (omega arith) (vertex_seat j (omega arith))) (edge_seat j (omega arith))
            (subst (λ n. Seat some n Vertex) (omega arith) (vertex_seat (suc j) (omega arith))) (and_parts _ _ may).0)
            (pieces_fine (suc j) pieces (omega arith) (and_parts _ _ may).1)

    -- ---- two places of one element
    twice_there : (x y : Spot) → IsIn x spots → IsIn y spots → element_at graph x ≡ element_at graph y → (op : Comparison)
        → list_all fine (compared_columns catalog graph prefix op x (element_at graph x).key y (element_at graph y).key) ≡ true
    twice_there x y p q same op =
        pairs_fine op x y p q (element_at graph x).key (element_at graph y).key (element_ok x p).key.places (element_ok y q).key.places
        (ap (λ (e : Element). classes_at (table_at catalog e.table) e.key) same)

    differing_fine : (x y : Spot) → IsIn x spots → IsIn y spots → x.kind ≡ y.kind → list_all fine (differing catalog graph prefix x y) ≡ true
    differing_fine x y p q kind = go (nat_eq x.element y.element) refl
      where
        go : (b : Bool) → nat_eq x.element y.element ≡ b
            → list_all fine (cond b (any_of (compared_columns catalog graph prefix NotEqual x (element_at graph x).key y (element_at graph y).key) ∷ []) []) ≡ true
        go true e =
            and_join _ _ (any_of_fine fine accepts.all accepts.any _ (some_pair NotEqual x y (element_at graph x).key (element_at graph y).key (element_ok x p).key.some
            (element_ok y q).key.some)
            (twice_there x y p q (ap₂ (element_of_kind graph) kind (eqb-true _ _ e)) NotEqual)) refl
        go false e = refl

    same_key_fine : (x y : Spot) → IsIn x spots → IsIn y spots → element_at graph x ≡ element_at graph y → list_all fine (same_key catalog graph prefix x y) ≡ true
    same_key_fine x y p q same = go (nat_eq x.item y.item)
      where
        go : (b : Bool) → list_all fine (cond b [] (compared_columns catalog graph prefix Equal x (element_at graph x).key y (element_at graph y).key)) ≡ true
        go true = refl
        go false = twice_there x y p q same Equal

    without_last_in : (xs : List Spot) (x : Spot) → IsIn x (without_last xs) → IsIn x xs
    without_last_in [] x h = absurd h
    without_last_in (y ∷ []) x h = absurd h
    without_last_in (y ∷ z ∷ zs) x (inl e) = inl e
    without_last_in (y ∷ z ∷ zs) x (inr h) = inr (without_last_in (z ∷ zs) x h)

    module _ (kind : Kind) where
      abbrev AreOf : List Spot → Type 0
      AreOf some = (x : Spot) → IsIn x some → IsIn x spots × (x.kind ≡ kind)

      all_differing_fine : (some : List Spot) → AreOf some → list_all fine (all_differing catalog graph prefix some) ≡ true
      all_differing_fine [] h = refl
      all_differing_fine (x ∷ xs) h =
          append_fine fine (flat_map (differing catalog graph prefix x) xs) (all_differing catalog graph prefix xs)
          (flat_fine fine (differing catalog graph prefix x) xs (λ y k. differing_fine x y (h x (inl refl)).0 (h y (inr k)).0 ((h x (inl refl)).1 ∙ sym (h y (inr k)).1)))
          (all_differing_fine xs (λ y k. h y (inr k)))

      simply_differing_fine : (some : List Spot) → AreOf some → list_all fine (simply_differing catalog graph prefix some) ≡ true
      simply_differing_fine [] h = refl
      simply_differing_fine (x ∷ xs) h =
          append_fine fine (flat_map (differing catalog graph prefix x) (without_last xs)) (all_differing catalog graph prefix xs)
          (flat_fine fine (differing catalog graph prefix x) (without_last xs)
          (λ y k. let m = without_last_in xs y k in differing_fine x y (h x (inl refl)).0 (h y (inr m)).0 ((h x (inl refl)).1 ∙ sym (h y (inr m)).1)))
          (all_differing_fine xs (λ y k. h y (inr k)))

    edge_kind : (kind : Kind) → elim kind [ Vertex ↦ false | Edge ↦ true ] ≡ true → kind ≡ Edge
    edge_kind Vertex h = cc
    edge_kind Edge h = refl

    vertex_kind : (kind : Kind) → elim kind [ Vertex ↦ true | Edge ↦ false ] ≡ true → kind ≡ Vertex
    vertex_kind Vertex h = refl
    vertex_kind Edge h = cc

    spot_kept : (p : Spot → Bool) (xs : List Spot) (x : Spot) → IsIn x (filter p xs) → IsIn x xs × (p x ≡ true)
    spot_kept p xs x h = in_kept p xs x h

    pub modes_fine : (m : Mode) (some : List Spot) → ((spot : Spot) → IsIn spot some → IsIn spot spots) → list_all fine (mode_conditions catalog graph prefix m some) ≡ true
    modes_fine mode.Walk some among = refl
    modes_fine mode.Trail some among =
        all_differing_fine Edge (edge_spots some) (λ x k. let m = spot_kept is_edge_spot some x k in (among x m.0, edge_kind x.kind m.1))
    modes_fine mode.Acyclic some among =
        all_differing_fine Vertex (vertex_spots some) (λ x k. let m = spot_kept is_vertex_spot some x k in (among x m.0, vertex_kind x.kind m.1))
    modes_fine mode.Simple some among =
        simply_differing_fine Vertex (vertex_spots some) (λ x k. let m = spot_kept is_vertex_spot some x k in (among x m.0, vertex_kind x.kind m.1))

    all_same_key_fine : (some : List Spot) → ((x : Spot) → IsIn x some → IsIn x spots) → ((x y : Spot) → IsIn x some → IsIn y some → element_at graph x ≡ element_at graph y)
        → list_all fine (all_same_key catalog graph prefix some) ≡ true
    all_same_key_fine [] among same = refl
    all_same_key_fine (x ∷ xs) among same =
        flat_fine fine (same_key catalog graph prefix x) xs (λ y k. same_key_fine x y (among x (inl refl)) (among y (inr k)) (same x y (inl refl) (inr k)))

    pub sharing_fine : (names : List (List ℕ)) (tags : List Tags) → agree nat_eq names tags (map (λ s. s.element) spots) ≡ true
        → agree same_kind names tags (map (λ s. s.kind) spots) ≡ true
        → list_all fine (sharing_conditions catalog graph prefix names tags spots) ≡ true
    sharing_fine names tags numbers kinds =
        flat_fine fine (λ name. all_same_key catalog graph prefix (tagged name tags spots)) names
        (λ name k. all_same_key_fine (tagged name tags spots) (λ x m. tagged_in name tags spots x m)
        (λ x y m n. ap₂ (element_of_kind graph) (alike_at same_kind kind_same (λ s. s.kind) names tags spots kinds name k x y m n)
        (alike_at nat_eq eqb-true (λ s. s.element) names tags spots numbers name k x y m n)))
