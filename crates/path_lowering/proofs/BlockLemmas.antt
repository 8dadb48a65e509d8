-- When the conditions of a block are True.
use Rattle.std.proofs.Common.{◌≡◌, ℕ, zero, suc, ◌+◌, ◌*◌, ◌<◌, ◌≤◌, Bool, true, false, ◌&&◌, ◌||◌, List, [], ◌∷◌, ◌++◌, map, flat_map, length, refl, sym, ap, ap₂, subst, ◌∙◌}
use Rattle.std.proofs.Common.{inl, inr, nat_eq, Option, None, Some, arith}
use Rattle.std.specs.Prelude.{slice_get}
use Rattle.std.specs.List.{list_all, list_any}
use Rattle.std.proofs.lemmas.Bool.{and_parts}
use Rattle.std.proofs.Math.ListN.{length-map}
use Rattle.std.proofs.lemmas.List.Folds.{list_all-append}
use Rattle.pgq_base.specs.declared.value.Value.{Value}
use Rattle.pgq_base.specs.Instances.{RowValues, InstanceRows}
use Rattle.multisets.specs.Bags.{IsIn}
use Rattle.multisets.proofs.Members.{in_append}
use Rattle.expr_tree.specs.Leaves.{EachLeaf}
use Rattle.graph_ast.specs.declared.catalog.Catalog.{Catalog}
use Rattle.graph_ast.specs.declared.catalog.Graph.{Graph}
use Rattle.graph_ast.specs.declared.checked.CheckedPath.{CheckedPath}
use Rattle.graph_ast.specs.declared.blocks.Tags.{Tags}
use Rattle.graph_ast.specs.declared.blocks.Alternative.{Alternative}
use Rattle.graph_ast.specs.declared.blocks.PathBlock.{PathBlock}
use Rattle.graph_ast.specs.Catalogs.{IsValidGraph}
use Rattle.graph_ast.specs.Fits.{Fits}
use Rattle.graph_meaning.specs.Lists.{agree}
use Rattle.graph_meaning.specs.View.{GraphElement, same_element}
use Rattle.graph_meaning.specs.Walks.{Walk, places_of}
use Rattle.graph_meaning.specs.Choices.{Condition, expansion_of, operand_at, iterations, tags_of, singletons_of}
use Rattle.graph_meaning.specs.Conditions.{held_by}
use Rattle.graph_meaning.specs.Readings.{meets_piece, meets_condition}
use Rattle.graph_meaning.specs.Bindings.{keeps_mode}
use Rattle.graph_meaning.specs.Blocks.{may_meet_piece}
use Rattle.sql_algebra.specs.declared.tree.ColumnLeaf.{ColumnLeaf}
use Rattle.path_lowering.specs.declared.spots.Kind.{Kind}
use Rattle.path_lowering.specs.declared.spots.Kind.TheVariants.{Vertex, Edge}
use Rattle.path_lowering.specs.declared.spots.Spot.{Spot}
use Rattle.path_lowering.specs.Spots.{standing, elements_at, other_kind, spots_along, same_kind}
use Rattle.path_lowering.specs.Emitted.{SqlCondition, choice_conditions, mode_conditions, sharing_conditions, piece_conditions, scoped_condition, spot_by}
use Rattle.path_lowering.specs.Shown.{Shows}
use Rattle.path_lowering.specs.Blocks.{alternatives_of, where_for, reads_at, meets_last, IsPlain, IsPart, SaysAny, Laid, laid_tags, laid_spots, block_conditions}
use Rattle.path_lowering.proofs.Truths.{true_in, all_true_in, list_all-flat_map, list_any-map, and_kept}
use Rattle.path_lowering.proofs.PieceLemmas.{Seat, numbers_at, pieces_mean}
use Rattle.path_lowering.proofs.ConditionLemmas.{scoped_mean, condition_means, follows_tags}
use Rattle.path_lowering.proofs.ModeLemmas.{mode_means}
use Rattle.path_lowering.proofs.SharingLemmas.{sharing_means}
use Rattle.path_lowering.proofs.Lists.{map-flat_map}
use Rattle.path_lowering.proofs.AgreeLemmas.{agree_part}

-- along a path vertices stand at the even places and edges at the odd ones
pub vertex_seat : (numbers items : List ℕ) (i : ℕ) → 2 * i < length numbers → length numbers ≤ length items → Seat (spots_along Vertex numbers items) (2 * i) Vertex
vertex_seat [] items i below many = absurd (omega arith)
vertex_seat (n ∷ ns) [] i below many = absurd (omega arith)
vertex_seat (n ∷ ns) (a ∷ more) zero below many = record { spot = record { kind = Vertex; element = n; item = a }; at = refl; kind_is = refl }
vertex_seat (n ∷ []) (a ∷ more) (suc i) below many = absurd (omega arith)
vertex_seat (n ∷ m ∷ ns) (a ∷ []) (suc i) below many = absurd (omega arith)
vertex_seat (n ∷ m ∷ ns) (a ∷ b ∷ more) (suc i) below many =
    let seat = vertex_seat ns more i (omega arith) (omega arith) in
    let e : 2 * suc i ≡ suc (suc (2 * i)) = omega arith in
    record { spot = seat.spot; at = ap (slice_get (spots_along Vertex (n ∷ m ∷ ns) (a ∷ b ∷ more))) e ∙ seat.at; kind_is = seat.kind_is }

pub edge_seat : (numbers items : List ℕ) (i : ℕ) → 2 * i + 1 < length numbers → length numbers ≤ length items → Seat (spots_along Vertex numbers items) (2 * i + 1) Edge
edge_seat [] items i below many = absurd (omega arith)
edge_seat (n ∷ ns) [] i below many = absurd (omega arith)
edge_seat (n ∷ []) (a ∷ more) i below many = absurd (omega arith)
edge_seat (n ∷ m ∷ ns) (a ∷ []) i below many = absurd (omega arith)
edge_seat (n ∷ m ∷ ns) (a ∷ b ∷ more) zero below many = record { spot = record { kind = Edge; element = m; item = b }; at = refl; kind_is = refl }
edge_seat (n ∷ m ∷ ns) (a ∷ b ∷ more) (suc i) below many =
    let seat = edge_seat ns more i (omega arith) (omega arith) in
    let e : 2 * suc i + 1 ≡ suc (suc (2 * i + 1)) = omega arith in
    record { spot = seat.spot; at = ap (slice_get (spots_along Vertex (n ∷ m ∷ ns) (a ∷ b ∷ more))) e ∙ seat.at; kind_is = seat.kind_is }

pub numbers_along : (kind : Kind) (numbers items : List ℕ) → length numbers ≤ length items → numbers_at (spots_along kind numbers items) ≡ numbers
numbers_along kind [] items many = refl
numbers_along kind (n ∷ ns) [] many = absurd (omega arith)
numbers_along kind (n ∷ ns) (a ∷ more) many = ap (λ l. n ∷ l) (numbers_along (other_kind kind) ns more (omega arith))

pub any-each : {X : Type 0} (p q : X → Bool) (xs : List X) → ((x : X) → IsIn x xs → p x ≡ q x) → list_any p xs ≡ list_any q xs
any-each p q [] h = refl
any-each p q (x ∷ xs) h = ap₂ (λ a b. a || b) (h x (inl refl)) (any-each p q xs (λ y k. h y (inr k)))

pub all-each : {X : Type 0} (p q : X → Bool) (xs : List X) → ((x : X) → IsIn x xs → p x ≡ q x) → list_all p xs ≡ list_all q xs
all-each p q [] h = refl
all-each p q (x ∷ xs) h = ap₂ (λ a b. a && b) (h x (inl refl)) (all-each p q xs (λ y k. h y (inr k)))

in_flat : {X Y : Type 0} (f : X → List Y) (xs : List X) (x : X) → IsIn x xs → (y : Y) → IsIn y (f x) → IsIn y (flat_map f xs)
in_flat f [] x h y k = absurd h
in_flat f (z ∷ zs) x (inl e) y k = in_append y (f z) (flat_map f zs) (inl (subst (λ w. IsIn y (f w)) (sym e) k))
in_flat f (z ∷ zs) x (inr h) y k = in_append y (f z) (flat_map f zs) (inr (in_flat f zs x h y k))

-- two tests before one on which they agree
before_true : (a b g l : Bool) → (g ≡ true → a ≡ b) → (a && (g && l)) ≡ (b && (g && l))
before_true a b true l h = ap (λ x. x && l) (h refl)
before_true true true false l h = refl
before_true true false false l h = refl
before_true false true false l h = refl
before_true false false false l h = refl

-- a test that may take another for granted
granted : (a b c : Bool) → b ≡ true → (a && (b && c)) ≡ (a && c)
granted a b c h = ap (λ x. a && (x && c)) h

module _ (catalog : Catalog) (graph : Graph) (instance : InstanceRows) (prefix : ℕ) (env : ColumnLeaf → Value) (rows : List RowValues)
    (valid : IsValidGraph catalog graph) (fits : Fits catalog instance) where
  -- what a choice asks, but for its singletons
  abbrev pub choice_meets : CheckedPath → List Spot → Alternative → Bool
  choice_meets path spots choice =
      list_all (meets_piece graph (elements_at graph rows spots)) (expansion_of path choice).pieces
      && list_all (meets_condition graph instance (elements_at graph rows spots)) (expansion_of path choice).conditions

  module _ (path : CheckedPath) (part : PathBlock) (items : List ℕ) (many : length part.elements ≤ length items) (ok : IsPart graph path part)
      (shows : Shows catalog graph instance prefix env rows (spots_along Vertex part.elements items)) where
    abbrev spots : List Spot
    spots = spots_along Vertex part.elements items

    pub choice_means : (choice : Alternative) → IsIn choice part.alternatives → all_true_in env (choice_conditions catalog graph prefix (expansion_of path choice) spots)
        ≡ choice_meets path spots choice
    choice_means choice h =
        list_all-append (true_in env) (flat_map (piece_conditions catalog graph prefix spots) (expansion_of path choice).pieces)
        (map (scoped_condition catalog graph prefix spots) (expansion_of path choice).conditions)
        ∙ ap₂ (λ a b. a && b)
        (sym (pieces_mean catalog graph instance prefix env rows spots valid fits shows (expansion_of path choice).edges
        (λ i low. vertex_seat part.elements items i (omega (arith, ok.sized choice h)) many) (λ i low. edge_seat part.elements items i (omega (arith, ok.sized choice h)) many)
        0 (flat_map (λ iteration. iteration.pieces) (iterations (operand_at path choice.operand).steps choice.counts)) (omega arith)
        (ap (λ numbers. list_all (may_meet_piece graph numbers) (expansion_of path choice).pieces) (numbers_along Vertex part.elements items many)
        ∙ (and_parts _ _ (ok.feasible choice h)).0)))
        (sym (scoped_mean catalog graph instance prefix env rows spots valid fits shows (expansion_of path choice).conditions (ok.plain choice h)))

    -- the conditions of a path block say that some alternative meets and the mode keeps
    pub part_means : (conditions : List SqlCondition) → SaysAny (alternatives_of catalog graph prefix path part spots) conditions → (walk : Walk) → places_of walk
        ≡ elements_at graph rows spots
        → all_true_in env (conditions ++ mode_conditions catalog graph prefix path.mode spots) ≡ (list_any (choice_meets path spots) part.alternatives && keeps_mode path.mode walk)
    part_means conditions says walk is =
        list_all-append (true_in env) conditions (mode_conditions catalog graph prefix path.mode spots)
        ∙ ap₂ (λ a b. a && b)
        (says env ∙ list_any-map (all_true_in env) (λ choice. choice_conditions catalog graph prefix (expansion_of path choice) spots) part.alternatives
        ∙ any-each _ _ part.alternatives choice_means)
        (mode_means catalog graph instance prefix env rows spots valid fits shows path.mode walk is)

  laid_means : (path : CheckedPath) (part : PathBlock) (items : List ℕ) → length part.elements ≤ length items → IsPart graph path part
      → (conditions : List SqlCondition) (walk : Walk) (spots : List Spot) → spots ≡ spots_along Vertex part.elements items
      → Shows catalog graph instance prefix env rows spots → SaysAny (alternatives_of catalog graph prefix path part spots) conditions → places_of walk
      ≡ elements_at graph rows spots
      → all_true_in env (conditions ++ mode_conditions catalog graph prefix path.mode spots) ≡ (list_any (choice_meets path spots) part.alternatives && keeps_mode path.mode walk)
  laid_means path part items many ok conditions walk spots is =
      subst (λ (s : List Spot). Shows catalog graph instance prefix env rows s → SaysAny (alternatives_of catalog graph prefix path part s) conditions → places_of walk
      ≡ elements_at graph rows s
      → all_true_in env (conditions ++ mode_conditions catalog graph prefix path.mode s) ≡ (list_any (choice_meets path s) part.alternatives && keeps_mode path.mode walk))
      (sym is) (λ shows says placed. part_means path part items many ok shows conditions says walk placed)

  shows_among : (some all : List Spot) → ((spot : Spot) → IsIn spot some → IsIn spot all) → Shows catalog graph instance prefix env rows all
      → Shows catalog graph instance prefix env rows some
  shows_among some all among shows = record {
    elements = λ spot h. shows.elements spot (among spot h);
    members = λ spot h. shows.members spot (among spot h);
    columns = λ spot h. shows.columns spot (among spot h);
  }

  last_means : (tags : List Tags) (spots : List Spot) → Shows catalog graph instance prefix env rows spots → (condition : Option Condition)
      → ((c : Condition) → condition ≡ Some c → EachLeaf IsPlain c)
      → all_true_in env (where_for catalog graph prefix tags spots condition) ≡ meets_last graph instance (held_by tags (elements_at graph rows spots)) condition
  last_means tags spots shows None plain = refl
  last_means tags spots shows (Some condition) plain =
      and_kept _ ∙ condition_means catalog graph instance prefix env rows spots valid fits shows (spot_by tags spots) (held_by tags (elements_at graph rows spots))
      (follows_tags catalog graph instance prefix env rows spots valid fits shows tags) condition (plain condition refl)

  -- rows of FROM items, for all places of a block
  module _ (names : List (List ℕ)) (parts : List Laid) (condition : Option Condition) (walk_of : Laid → Walk)
      (shows : Shows catalog graph instance prefix env rows (laid_spots parts)) where
    abbrev pub all_elements : List GraphElement
    all_elements = elements_at graph rows (laid_spots parts)

    -- what rows must be for a path block: some alternative reads what they stand for, and the mode keeps it
    abbrev pub is_laid : Laid → Bool
    is_laid laid = list_any (λ choice. reads_at graph instance laid.path choice (elements_at graph rows laid.spots)) laid.part.alternatives && keeps_mode laid.path.mode
        (walk_of laid)

    abbrev pub is_block : Bool
    is_block =
        list_all is_laid parts
        && (agree same_element names (laid_tags parts) all_elements && meets_last graph instance (held_by (laid_tags parts) all_elements) condition)

    abbrev of_part : Laid → List SqlCondition
    of_part laid = laid.conditions ++ mode_conditions catalog graph prefix laid.path.mode laid.spots

    elements_parted : (some : List Laid) → elements_at graph rows (laid_spots some) ≡ flat_map (λ laid. elements_at graph rows laid.spots) some
    elements_parted some = map-flat_map (standing graph rows) (λ laid. laid.spots) some

    -- each part is a path block, laid along the places of its path
    pub record IsLaid (laid : Laid) : Type 0 where
      pub items : List ℕ
      pub many : length laid.part.elements ≤ length items
      pub spots_are : laid.spots ≡ spots_along Vertex laid.part.elements items
      pub part : IsPart graph laid.path laid.part
      pub says : SaysAny (alternatives_of catalog graph prefix laid.path laid.part laid.spots) laid.conditions
      pub tags_many : length laid.part.tags ≡ length laid.part.elements
      pub walk : places_of (walk_of laid) ≡ elements_at graph rows laid.spots
      pub names_in : (name : List ℕ) → IsIn name (singletons_of laid.path) → IsIn name names

    module _ (laid_all : (laid : Laid) → IsIn laid parts → IsLaid laid)
        (numbers : agree nat_eq names (laid_tags parts) (map (λ spot. spot.element) (laid_spots parts)) ≡ true)
        (kinds : agree same_kind names (laid_tags parts) (map (λ spot. spot.kind) (laid_spots parts)) ≡ true)
        (plain : (c : Condition) → condition ≡ Some c → EachLeaf IsPlain c) where
      sized : (laid : Laid) → IsIn laid parts → length laid.part.tags ≡ length (elements_at graph rows laid.spots)
      sized laid h =
          let ok = laid_all laid h in
          ok.tags_many ∙ ap length (sym (numbers_along Vertex laid.part.elements ok.items ok.many)) ∙ length-map (spots_along Vertex laid.part.elements ok.items)
          (λ spot. spot.element)
          ∙ ap length (sym ok.spots_are) ∙ sym (length-map laid.spots (standing graph rows))

      -- where the places of each singleton agree, a choice reads what it meets
      laid_reads : agree same_element names (laid_tags parts) all_elements ≡ true → (laid : Laid) → IsIn laid parts
          → (list_any (choice_meets laid.path laid.spots) laid.part.alternatives && keeps_mode laid.path.mode (walk_of laid)) ≡ is_laid laid
      laid_reads all laid h =
          let ok = laid_all laid h in
          let here : agree same_element (singletons_of laid.path) laid.part.tags (elements_at graph rows laid.spots) ≡ true =
          agree_part (λ (l : Laid). l.part.tags) (λ (l : Laid). elements_at graph rows l.spots) names (singletons_of laid.path) parts sized laid h ok.names_in
          (ap (agree same_element names (laid_tags parts)) (sym (elements_parted parts)) ∙ all) in
          ap (λ b. b && keeps_mode laid.path.mode (walk_of laid))
          (any-each _ _ laid.part.alternatives (λ choice k. sym (granted
          (list_all (meets_piece graph (elements_at graph rows laid.spots)) (expansion_of laid.path choice).pieces)
          (agree same_element (singletons_of laid.path) (tags_of laid.path choice) (elements_at graph rows laid.spots))
          (list_all (meets_condition graph instance (elements_at graph rows laid.spots)) (expansion_of laid.path choice).conditions)
          (ap (λ tags. agree same_element (singletons_of laid.path) tags (elements_at graph rows laid.spots)) (ok.part.tagged choice k) ∙ here))))

      one_means : (laid : Laid) → IsIn laid parts → all_true_in env (laid.conditions ++ mode_conditions catalog graph prefix laid.path.mode laid.spots)
          ≡ (list_any (choice_meets laid.path laid.spots) laid.part.alternatives && keeps_mode laid.path.mode (walk_of laid))
      one_means laid h =
          let ok = laid_all laid h in
          laid_means laid.path laid.part ok.items ok.many ok.part laid.conditions (walk_of laid) laid.spots ok.spots_are
          (shows_among laid.spots (laid_spots parts) (in_flat (λ l. l.spots) parts laid h) shows) ok.says ok.walk

      -- the conditions of a block are True exactly where some alternative of each path reads what the rows stand for
      pub block_means : all_true_in env (block_conditions catalog graph prefix names parts condition) ≡ is_block
      block_means =
          list_all-append (true_in env) (flat_map of_part parts) (sharing_conditions catalog graph prefix names (laid_tags parts) (laid_spots parts)
          ++ where_for catalog graph prefix (laid_tags parts) (laid_spots parts) condition)
          ∙ ap₂ (λ a b. a && b)
          (list_all-flat_map (true_in env) of_part parts ∙ all-each _ _ parts one_means)
          (list_all-append (true_in env) (sharing_conditions catalog graph prefix names (laid_tags parts) (laid_spots parts))
          (where_for catalog graph prefix (laid_tags parts) (laid_spots parts) condition)
          ∙ ap₂ (λ a b. a && b)
          (sharing_means catalog graph instance prefix env rows (laid_spots parts) valid fits shows names (laid_tags parts) numbers kinds)
          (last_means (laid_tags parts) (laid_spots parts) shows condition plain))
          ∙ before_true _ _ (agree same_element names (laid_tags parts) all_elements) (meets_last graph instance (held_by (laid_tags parts) all_elements) condition)
          (λ all. all-each _ _ parts (laid_reads all))
