-- The bindings of the generated run's path pattern, and with them its answer, are few.
use Rattle.std.proofs.Common.{◌≡◌, ℕ, suc, ◌+◌, ◌*◌, ◌≤◌, inl, inr, Bool, true, false, ◌&&◌, ◌||◌, cond, List, [], ◌∷◌, ◌++◌, map, filter, flat_map, length, codes, refl, sym}
use Rattle.std.proofs.Common.{subst, ap, ◌∙◌, arith, true≢false, nat_eq, length-append}
use Rattle.std.proofs.lemmas.Bool.Decides.{Decides-eqb}
use Rattle.std.specs.List.{list_all}
use Rattle.std.proofs.lemmas.List.{length-map}
use Rattle.multisets.specs.Bags.{IsIn}
use Rattle.std.proofs.lemmas.Grind.{flat_map-append}
use Rattle.graph_ast.specs.declared.checked.Piece.TheVariants as PieceOf
use Rattle.graph_ast.specs.declared.query.Direction.TheVariants.{Right}
use Rattle.graph_ast.specs.declared.blocks.Tags.{Tags}
use Rattle.graph_ast.specs.declared.blocks.Alternative.{Alternative}
use Rattle.graph_meaning.specs.Lists.{agree, combinations}
use Rattle.graph_meaning.specs.View.{Identity, Edge, same_element}
use Rattle.graph_meaning.specs.Walks.{Walk, edge_count, places_of, walks, walks_up_to}
use Rattle.graph_meaning.specs.Choices.{PlacedPiece, expansion_of, tags_of, singletons_of}
use Rattle.graph_meaning.specs.Readings.{meets_piece, meets_condition, reads}
use Rattle.graph_meaning.specs.Bindings.{Binding, bindings_of, bindings, keeps_mode, bindings_in_mode, is_selected, group_count, path_bindings}
use Rattle.graph_meaning.specs.Answers.{is_joined, graph_bindings, answer_row, answer}
use Rattle.graph_meaning.proofs.Members.{both_parts, both_true, each_of}
use Rattle.sample_run.specs.SampleCatalog.{sample_catalog, sample_graph}
use Rattle.sample_run.specs.SampleRun.{sample_rows}
use Rattle.sample_bound.specs.SampleQuery.{named, sample_path, sample_checked}
use Rattle.sample_bound.proofs.Counting.{no_more, few_made}
use Rattle.sample_bound.proofs.Forward.{leads_by, leads_on, is_forward, few_walks}
use Rattle.sample_bound.proofs.SampleEdges.{sample_view, vertex_count, few_edges}

abbrev only : List ℕ → Tags
only name = record { names = name ∷ [] }

-- the tags of one iteration and of two, and the choice that has them
abbrev once : List Tags
once = only (codes "X") ∷ only (codes "E") ∷ only (codes "Y") ∷ []

abbrev no_tags : Tags
no_tags = record { names = [] }

abbrev twice : List Tags
twice = only (codes "X") ∷ only (codes "E") ∷ no_tags ∷ only (codes "E") ∷ only (codes "Y") ∷ []

abbrev iterated : ℕ → Alternative
iterated count = record { operand = 0; counts = count ∷ [] }

abbrev walk_of : Identity → List (Edge × Identity) → Walk
walk_of start steps = record { start = start; steps = steps }

-- whether the walk is read with so many iterations
abbrev reads_it : ℕ → ℕ → Walk → Bool
reads_it n count walk = reads sample_graph (sample_rows n) sample_path (iterated count) walk

abbrev read_bindings : ℕ → Walk → List Binding
read_bindings n = bindings_of sample_graph (sample_rows n) sample_path

-- it leads along its edges, and there are so many of them
record Leads (start : Identity) (steps : List (Edge × Identity)) (count : ℕ) : Type 0 where
  forward : leads_on start steps ≡ true
  edges : length steps ≡ count

-- what reading it says of the walk
record IsMet (count : ℕ) (walk : Walk) : Type 0 where
  edges : nat_eq (edge_count walk) (expansion_of sample_path (iterated count)).edges ≡ true
  each : (piece : PlacedPiece) → IsIn piece (expansion_of sample_path (iterated count)).pieces → meets_piece sample_graph (places_of walk) piece ≡ true

-- the edge pattern at a place
abbrev by_edge : ℕ → PlacedPiece
by_edge place = (place, PieceOf.Edge Right (named (codes "E")))

module _ (n : ℕ) where
  as_many : (count : ℕ) (steps : List (Edge × Identity)) → nat_eq (length steps) count ≡ true → length steps ≡ count
  as_many count steps h = (Decides-eqb (length steps) count).0 h

  parts : (count : ℕ) (walk : Walk) → reads_it n count walk ≡ true → IsMet count walk
  parts count walk h =
      let expansion = expansion_of sample_path (iterated count) in
      let pieces = list_all (meets_piece sample_graph (places_of walk)) expansion.pieces in
      let conditions = list_all (meets_condition sample_graph (sample_rows n) (places_of walk)) expansion.conditions in
      let rest = agree same_element (singletons_of sample_path) (tags_of sample_path (iterated count)) (places_of walk) && conditions in
      let first = both_parts (nat_eq (edge_count walk) expansion.edges) (pieces && rest) h in
      let second = both_parts pieces rest first.1 in
      record { edges = first.0; each = each_of (meets_piece sample_graph (places_of walk)) expansion.pieces second.0 }

  once_leads : (start : Identity) (steps : List (Edge × Identity)) → reads_it n 1 (walk_of start steps) ≡ true → Leads start steps 1
  once_leads start [] h = absurd (true≢false (sym (parts 1 (walk_of start []) h).edges))
  once_leads start (step ∷ []) h =
      let edge = (parts 1 (walk_of start (step ∷ [])) h).each (by_edge 1) (inr (inl refl)) in
      record { forward = both_true (leads_by start step) true edge refl; edges = refl }
  once_leads start (first ∷ second ∷ steps) h =
      absurd (let e = as_many 1 (first ∷ second ∷ steps) (parts 1 (walk_of start (first ∷ second ∷ steps)) h).edges in omega arith)

  twice_leads : (start : Identity) (steps : List (Edge × Identity)) → reads_it n 2 (walk_of start steps) ≡ true → Leads start steps 2
  twice_leads start [] h = absurd (true≢false (sym (parts 2 (walk_of start []) h).edges))
  twice_leads start (step ∷ []) h = absurd (true≢false (sym (parts 2 (walk_of start (step ∷ [])) h).edges))
  twice_leads start (first ∷ second ∷ []) h =
      let met = parts 2 (walk_of start (first ∷ second ∷ [])) h in
      let edge = met.each (by_edge 1) (inr (inl refl)) in
      let other = met.each (by_edge 3) (inr (inr (inl refl))) in
      record { forward = both_true (leads_by start first) (leads_by first.1 second && true) edge (both_true (leads_by first.1 second) true other refl); edges = refl }
  twice_leads start (first ∷ second ∷ third ∷ steps) h =
      absurd (let e = as_many 2 (first ∷ second ∷ third ∷ steps) (parts 2 (walk_of start (first ∷ second ∷ third ∷ steps)) h).edges in omega arith)

  one_reading : (start : Identity) (steps : List (Edge × Identity)) → length (read_bindings n (walk_of start steps)) ≤ cond (leads_on start steps) 1 0
  one_reading start steps =
      go (reads_it n 1 (walk_of start steps)) (reads_it n 2 (walk_of start steps)) (once_leads start steps) (twice_leads start steps)
    where
      bound : List Tags → Binding
      bound tags = record { walk = walk_of start steps; tags = tags }

      go : (a b : Bool) → (a ≡ true → Leads start steps 1) → (b ≡ true → Leads start steps 2)
          → length (map bound (cond (a || false) (once ∷ cond (b || false) (twice ∷ []) []) (cond (b || false) (twice ∷ []) []))) ≤ cond (leads_on start steps) 1 0
      go true true p q = absurd (let e = (p refl).edges in let f = (q refl).edges in omega arith)
      go true false p q = subst (λ c. 1 ≤ cond c 1 0) (sym (p refl).forward) (omega arith)
      go false true p q = subst (λ c. 1 ≤ cond c 1 0) (sym (q refl).forward) (omega arith)
      go false false p q = omega arith

  -- no walk of no edge is read
  none_read : (vertices : List Identity) → flat_map (read_bindings n) (map (λ vertex. walk_of vertex []) vertices) ≡ []
  none_read [] = refl
  none_read (vertex ∷ vertices) = none_read vertices

  few_readings : (k : ℕ) → length (flat_map (read_bindings n) (walks (sample_view n) k)) ≤ 1 * length (filter is_forward (walks (sample_view n) k))
  few_readings k = few_made (read_bindings n) is_forward 1 (λ walk. one_reading walk.start walk.steps) (walks (sample_view n) k)

  few_forward : (k : ℕ) → length (filter is_forward (walks (sample_view n) (suc k))) ≤ 3 * length (filter is_forward (walks (sample_view n) k))
  few_forward = few_walks (sample_view n) (few_edges n)

  walks_of_none : length (filter is_forward (walks (sample_view n) 0)) ≤ n
  walks_of_none =
      let all = no_more is_forward (walks (sample_view n) 0) in
      let each = length-map (sample_view n).vertices (λ vertex. walk_of vertex []) in
      let count = vertex_count n in
      omega arith

  abbrev readings : ℕ → List Binding
  readings k = flat_map (read_bindings n) (walks (sample_view n) k)

  three_lengths : flat_map (read_bindings n) (walks_up_to (sample_view n) 2) ≡ readings 0 ++ (readings 1 ++ (readings 2 ++ []))
  three_lengths =
      flat_map-append (read_bindings n) (walks (sample_view n) 0) (walks (sample_view n) 1 ++ (walks (sample_view n) 2 ++ []))
      ∙ ap (λ l. readings 0 ++ l) (flat_map-append (read_bindings n) (walks (sample_view n) 1) (walks (sample_view n) 2 ++ [])
      ∙ ap (λ l. readings 1 ++ l) (flat_map-append (read_bindings n) (walks (sample_view n) 2) []))

  few_bindings : length (bindings sample_graph (sample_rows n) sample_path) ≤ 12 * n
  few_bindings =
      let none = ap length (none_read (sample_view n).vertices) in
      let first = few_readings 1 in
      let second = few_readings 2 in
      let start = walks_of_none in
      let longer = few_forward 0 in
      let longest = few_forward 1 in
      let sum = ap length three_lengths
      ∙ length-append (readings 0) (readings 1 ++ (readings 2 ++ []))
      ∙ ap (λ k. length (readings 0) + k) (length-append (readings 1) (readings 2 ++ []) ∙ ap (λ k. length (readings 1) + k) (length-append (readings 2) [])) in
      subst (λ k. k ≤ 12 * n) (sym sum) (omega arith)

-- one path pattern: each of its bindings alone
alone : (all : List Binding) → length (combinations (all ∷ [])) ≡ length all
alone [] = refl
alone (binding ∷ all) = ap suc (alone all)

pub answer_is_small : (n : ℕ) → length (answer sample_catalog sample_checked [] [] (sample_rows n)) ≤ 12 * n
unfolding sample_checked
answer_is_small n =
    let all = bindings_in_mode sample_graph (sample_rows n) sample_path in
    let chosen = path_bindings sample_graph (sample_rows n) sample_path 0 in
    let rows = length-map (graph_bindings sample_graph (sample_rows n) sample_checked []) (answer_row sample_graph (sample_rows n) sample_checked []) in
    let joined = no_more (is_joined sample_graph (sample_rows n) sample_checked) (combinations (chosen ∷ [])) in
    let each = alone chosen in
    let selected = no_more (is_selected (group_count sample_path 0) all) all in
    let kept = no_more (λ (binding : Binding). keeps_mode sample_path.mode binding.walk) (bindings sample_graph (sample_rows n) sample_path) in
    let few = few_bindings n in
    omega arith
