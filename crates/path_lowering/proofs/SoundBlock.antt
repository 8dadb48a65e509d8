-- The conditions of a block hold what comparisons of its columns hold, and what the query's own conditions hold when lowered.
use Rattle.std.proofs.Common.{nat_eq, ◌≡◌, ℕ, ◌+◌, ◌*◌, ◌≤◌, Bool, true, List, [], ◌∷◌, ◌++◌, map, flat_map, length, refl, sym, ap, subst, ◌∙◌, inl, inr, Option, None, Some, arith}
use Rattle.std.specs.Prelude.{slice_get}
use Rattle.std.specs.List.{list_all}
use Rattle.std.proofs.Math.ListN.{length-map}
use Rattle.std.proofs.lemmas.Bool.{and_parts}
use Rattle.multisets.specs.Bags.{IsIn}
use Rattle.graph_ast.specs.declared.catalog.Catalog.{Catalog}
use Rattle.graph_ast.specs.declared.catalog.Graph.{Graph}
use Rattle.graph_ast.specs.declared.checked.CheckedPath.{CheckedPath}
use Rattle.graph_ast.specs.declared.checked.Output.{Output}
use Rattle.graph_ast.specs.declared.blocks.Alternative.{Alternative}
use Rattle.graph_ast.specs.declared.blocks.PathBlock.{PathBlock}
use Rattle.graph_ast.specs.declared.blocks.Tags.{Tags}
use Rattle.graph_ast.specs.Catalogs.{IsValidGraph}
use Rattle.graph_meaning.specs.Blocks.{may_meet_piece}
use Rattle.graph_meaning.specs.Choices.{Condition, PlacedPiece, Scoped, expansion_of, operand_at, iterations}
use Rattle.graph_meaning.specs.Conditions.{place_in}
use Rattle.graph_meaning.specs.Lists.{agree, tagged}
use Rattle.graph_meaning.proofs.Members.{in_flat}
use Rattle.path_lowering.specs.declared.spots.Kind.TheVariants.{Vertex, Edge}
use Rattle.path_lowering.specs.declared.spots.Spot.{Spot}
use Rattle.path_lowering.specs.Spots.{spots_along, same_kind}
use Rattle.path_lowering.specs.Emitted.{SqlCondition, lowered, spot_in, spot_by, piece_conditions, scoped_condition, choice_conditions, mode_conditions, sharing_conditions}
use Rattle.path_lowering.specs.Blocks.{Laid, IsPart, laid_tags, laid_spots, alternatives_of, where_for, block_conditions}
use Rattle.path_lowering.specs.Selects.{IsBlockLaid}
use Rattle.path_lowering.specs.Lowered.{Combining}
use Rattle.path_lowering.specs.Sound.{IsBuilding}
use Rattle.path_lowering.proofs.BlockLemmas.{vertex_seat, edge_seat, numbers_along}
use Rattle.path_lowering.proofs.ConditionLemmas.{tagged_in, first_in}
use Rattle.path_lowering.proofs.PieceLemmas.{Seat, numbers_at, got_in}
use Rattle.path_lowering.proofs.PlacingLemmas.{and_join}
use Rattle.path_lowering.proofs.SoundConditions.{Accepts, append_fine, flat_fine, pieces_fine, modes_fine, sharing_fine}

pub map_fine : {X Y : Type 0} (fine : Y → Bool) (f : X → Y) (xs : List X) → ((x : X) → IsIn x xs → fine (f x) ≡ true) → list_all fine (map f xs) ≡ true
map_fine fine f [] h = refl
map_fine fine f (x ∷ xs) h = and_join _ _ (h x (inl refl)) (map_fine fine f xs (λ y k. h y (inr k)))

-- a variable of some element patterns, and of some tags, has one of the places
pub scope_within : (scope : List PlacedPiece) (some : List Spot) (name : List ℕ) (spot : Spot) → spot_in scope some name ≡ Some spot → IsIn spot some
scope_within scope some name spot = go (place_in scope name)
  where
    go : (o : Option ℕ) → elim o [ None ↦ None | Some place ↦ slice_get some place ] ≡ Some spot → IsIn spot some
    go None e = cc
    go (Some place) e = got_in some place spot e

pub tags_within : (tags : List Tags) (some : List Spot) (name : List ℕ) (spot : Spot) → spot_by tags some name ≡ Some spot → IsIn spot some
tags_within tags some name spot e = tagged_in name tags some spot (first_in (tagged name tags some) spot e)

module _ (catalog : Catalog) (graph : Graph) (prefix : ℕ) (valid : IsValidGraph catalog graph) (fine : SqlCondition → Bool) (spots : List Spot)
    (accepts : Accepts catalog graph prefix valid fine spots) where
  -- a condition over properties becomes a fine one, whichever of the places its variables have
  abbrev pub BecomesFine : Condition → Type 0
  BecomesFine c =
      (holding : List ℕ → Option Spot) → ((name : List ℕ) (spot : Spot) → holding name ≡ Some spot → IsIn spot spots) → fine (lowered catalog graph prefix holding c) ≡ true

  choice_fine : (path : CheckedPath) (part : PathBlock) (items : List ℕ) (some : List Spot) → some ≡ spots_along Vertex part.elements items
      → length part.elements ≤ length items → IsPart graph path part
      → ((spot : Spot) → IsIn spot some → IsIn spot spots) → (choice : Alternative) → IsIn choice part.alternatives
      → ((scoped : Scoped) → IsIn scoped (expansion_of path choice).conditions → BecomesFine scoped.condition)
      → list_all fine (choice_conditions catalog graph prefix (expansion_of path choice) some) ≡ true
  choice_fine path part items some is many ok among choice h scoped_fine =
      append_fine fine (flat_map (piece_conditions catalog graph prefix some) (expansion_of path choice).pieces)
      (map (scoped_condition catalog graph prefix some) (expansion_of path choice).conditions)
      (pieces_fine catalog graph prefix valid fine spots accepts some among (expansion_of path choice).edges
      (λ i low. subst (λ (s : List Spot). Seat s (2 * i) Vertex) (sym is) (vertex_seat part.elements items i (omega (arith, ok.sized choice h)) many))
      (λ i low. subst (λ (s : List Spot). Seat s (2 * i + 1) Edge) (sym is) (edge_seat part.elements items i (omega (arith, ok.sized choice h)) many))
      0 (flat_map (λ iteration. iteration.pieces) (iterations (operand_at path choice.operand).steps choice.counts)) (omega arith)
      (ap (λ numbers. list_all (may_meet_piece graph numbers) (expansion_of path choice).pieces) (ap numbers_at is ∙ numbers_along Vertex part.elements items many)
      ∙ (and_parts _ _ (ok.feasible choice h)).0))
      (map_fine fine (scoped_condition catalog graph prefix some) (expansion_of path choice).conditions
      (λ scoped k. scoped_fine scoped k (spot_in scoped.scope some) (λ name spot e. among spot (scope_within scoped.scope some name spot e))))

  module _ (names : List (List ℕ)) (parts : List Laid) (condition : Option Condition) (outputs : List Output) (combined : Combining) (builds : IsBuilding combined)
      (ok : IsBlockLaid catalog graph prefix names parts condition outputs) (spots_are : spots ≡ laid_spots parts) where
    -- the conditions of a path block are what its alternatives become, and those of the query in them become fine
    pub record IsMade (laid : Laid) : Type 0 where
      pub some : 1 ≤ length laid.part.alternatives
      pub conditions : laid.conditions ≡ combined (alternatives_of catalog graph prefix laid.path laid.part laid.spots)
      pub scoped : (choice : Alternative) → IsIn choice laid.part.alternatives → (scoped : Scoped) → IsIn scoped (expansion_of laid.path choice).conditions
          → BecomesFine scoped.condition

    module _ (made : (laid : Laid) → IsIn laid parts → IsMade laid) (last : (c : Condition) → condition ≡ Some c → BecomesFine c) where
      within : (laid : Laid) → IsIn laid parts → (spot : Spot) → IsIn spot laid.spots → IsIn spot spots
      within laid h spot k = subst (IsIn spot) (sym spots_are) (in_flat (λ (l : Laid). l.spots) spot laid parts h k)

      alternatives_fine : (laid : Laid) → IsIn laid parts → list_all fine laid.conditions ≡ true
      alternatives_fine laid h =
          let m = made laid h in
          let out = ok.parts_laid laid h in
          ap (list_all fine) m.conditions
          ∙ builds fine accepts.all accepts.any (alternatives_of catalog graph prefix laid.path laid.part laid.spots)
          (subst (λ n. 1 ≤ n) (sym (length-map laid.part.alternatives (λ choice. choice_conditions catalog graph prefix (expansion_of laid.path choice) laid.spots))) m.some)
          (map_fine (list_all fine) (λ choice. choice_conditions catalog graph prefix (expansion_of laid.path choice) laid.spots) laid.part.alternatives
          (λ choice k. choice_fine laid.path laid.part out.items laid.spots out.spots out.many out.part (within laid h) choice k (m.scoped choice k)))

      last_fine : (c : Option Condition) → c ≡ condition → list_all fine (where_for catalog graph prefix (laid_tags parts) (laid_spots parts) c) ≡ true
      last_fine None e = refl
      last_fine (Some c) e =
          and_join _ _ (last c (sym e) (spot_by (laid_tags parts) (laid_spots parts))
          (λ name spot k. subst (IsIn spot) (sym spots_are) (tags_within (laid_tags parts) (laid_spots parts) name spot k))) refl

      pub block_fine : list_all fine (block_conditions catalog graph prefix names parts condition) ≡ true
      block_fine =
          append_fine fine (flat_map (λ laid. laid.conditions ++ mode_conditions catalog graph prefix laid.path.mode laid.spots) parts)
          (sharing_conditions catalog graph prefix names (laid_tags parts) (laid_spots parts) ++ where_for catalog graph prefix (laid_tags parts) (laid_spots parts) condition)
          (flat_fine fine (λ laid. laid.conditions ++ mode_conditions catalog graph prefix laid.path.mode laid.spots) parts
          (λ laid h. append_fine fine laid.conditions (mode_conditions catalog graph prefix laid.path.mode laid.spots) (alternatives_fine laid h)
          (modes_fine catalog graph prefix valid fine spots accepts laid.path.mode laid.spots (within laid h))))
          (append_fine fine (sharing_conditions catalog graph prefix names (laid_tags parts) (laid_spots parts))
          (where_for catalog graph prefix (laid_tags parts) (laid_spots parts) condition)
          (subst (λ (s : List Spot). list_all fine (sharing_conditions catalog graph prefix names (laid_tags parts) s) ≡ true) spots_are
          (sharing_fine catalog graph prefix valid fine spots accepts names (laid_tags parts)
          (ap (λ s. agree nat_eq names (laid_tags parts) (map (λ x. x.element) s)) spots_are ∙ ok.numbers)
          (ap (λ s. agree same_kind names (laid_tags parts) (map (λ x. x.kind) s)) spots_are ∙ ok.kinds)))
          (last_fine condition refl))
