use Rattle.std.proofs.Common.{◌≤◌, ℕ, List, length, sym, subst, ◌∙◌}
use Rattle.shortest_lowering.proofs.StandingLemmas.{items_enough}
use Rattle.shortest_lowering.proofs.candidate.spots_of.Goals as goal

pub spots_along-requires : goal.spots_along-requires
spots_along-requires c =
    subst (λ (l : List ℕ). length c.as_slice-elements.result.now ≤ length l)
    (sym (c.as_slice.ensures.value ∙ c.in_ok-items.ensures))
    (items_enough (length c.as_slice-elements.result.now))
