-- Walks along the direction of their edges: where few edges lead from each vertex, there are few.
use Rattle.std.proofs.Common.{◌≡◌, ℕ, suc, ◌*◌, ◌≤◌, Bool, true, false, ◌&&◌, cond, List, [], ◌∷◌, ◌++◌, filter, length, Option, None, Some, refl, sym, ap, ◌∙◌, arith, true≢false}
use Rattle.std.specs.List.{filter_map}
use Rattle.graph_meaning.specs.View.{Identity, Edge, View, same_identity}
use Rattle.graph_meaning.specs.Walks.{Walk, end_of, last_of, extended, walks}
use Rattle.graph_meaning.proofs.Members.{both_parts, both_true}
use Rattle.sample_bound.proofs.Counting.{none_passes, few_pass, no_more_kept}

-- a step leads along its edge
abbrev pub leads_by : Identity → Edge × Identity → Bool
leads_by vertex step = same_identity step.0.source vertex && same_identity step.0.target step.1

-- each step does
abbrev pub leads_on : Identity → List (Edge × Identity) → Bool
leads_on vertex [] = true
leads_on vertex (step ∷ steps) = leads_by vertex step && leads_on step.1 steps

abbrev pub is_forward : Walk → Bool
is_forward walk = leads_on walk.start walk.steps

abbrev pub leaves : Identity → Edge → Bool
leaves vertex edge = same_identity edge.source vertex

-- whether a walk leads along its edges, and this one leads on
abbrev goes_on : Walk → Edge → Bool
goes_on walk edge = is_forward walk && leaves (last_of walk) edge

leads_more : (vertex : Identity) (steps : List (Edge × Identity)) (step : Edge × Identity) → leads_on vertex (steps ++ step ∷ []) ≡ true
    → (leads_on vertex steps ≡ true) × (leaves (end_of vertex steps) step.0 ≡ true)
leads_more vertex [] step h = (refl, (both_parts _ _ (both_parts _ _ h).0).0)
leads_more vertex (first ∷ steps) step h =
    let parts = both_parts _ (leads_on first.1 (steps ++ step ∷ [])) h in
    let later = leads_more first.1 steps step parts.1 in
    (both_true _ (leads_on first.1 steps) parts.0 later.0, later.1)

some_is : {X : Type 0} (x y : X) → (let o : Option X = Some x in o) ≡ Some y → x ≡ y
some_is x y h = cc

only_forward : (walk : Walk) (edge : Edge) (more : Walk) → extended walk edge ≡ Some more → is_forward more ≡ true → goes_on walk edge ≡ true
only_forward walk edge more found forward = go (leaves (last_of walk) edge) (same_identity edge.target (last_of walk)) refl found
  where
    by : Identity → Walk
    by other = record walk { steps = walk.steps ++ (edge, other) ∷ [] }

    parts : (other : Identity) → by other ≡ more → (is_forward walk ≡ true) × (leaves (last_of walk) edge ≡ true)
    parts other same = leads_more walk.start walk.steps (edge, other) (ap is_forward same ∙ forward)

    go : (b c : Bool) → leaves (last_of walk) edge ≡ b → cond b (Some (by edge.target)) (cond c (Some (by edge.source)) None) ≡ Some more → goes_on walk edge ≡ true
    go true c e found = let p = parts edge.target (some_is _ _ found) in both_true _ _ p.0 p.1
    go false true e found = absurd (true≢false (sym (parts edge.source (some_is _ _ found)).1 ∙ e))
    go false false e found = absurd (let none : (let o : Option Walk = None in o) ≡ Some more = found in cc)

module _ (view : View) (few : (vertex : Identity) → length (filter (leaves vertex) view.edges) ≤ 3) where
  few_on : (b : Bool) (vertex : Identity) → length (filter (λ edge. b && leaves vertex edge) view.edges) ≤ cond b 3 0
  few_on true vertex = few vertex
  few_on false vertex = none_passes (λ edge. false && leaves vertex edge) view.edges (λ edge there passes. true≢false (sym passes))

  few_longer : (walk : Walk) → length (filter is_forward (filter_map (extended walk) view.edges)) ≤ cond (is_forward walk) 3 0
  few_longer walk =
      let kept = no_more_kept (extended walk) is_forward (goes_on walk) (only_forward walk) view.edges in
      let all = few_on (is_forward walk) (last_of walk) in
      omega arith

  -- three times as many at most with one edge more
  pub few_walks : (k : ℕ) → length (filter is_forward (walks view (suc k))) ≤ 3 * length (filter is_forward (walks view k))
  few_walks k = few_pass (λ walk. filter_map (extended walk) view.edges) is_forward is_forward 3 few_longer (walks view k)
