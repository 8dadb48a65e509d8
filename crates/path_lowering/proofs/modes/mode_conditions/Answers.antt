use Rattle.std.proofs.Common.{subst, ◌∙◌}
use Rattle.multisets.specs.Bags.{IsIn}
use Rattle.path_lowering.proofs.MemberSteps.{edge_in, vertex_in, edges_alike, vertices_alike}
use Rattle.path_lowering.proofs.modes.mode_conditions.Goals as goal

pub all_differing-requires-clause-keys : goal.all_differing-requires-clause-keys
all_differing-requires-clause-keys c = λ spot h.
    c.requires.keys spot (edge_in c.args.spots.now spot (subst (IsIn spot) (c.as_slice.ensures.value ∙ c.in_ok-edges_among-in-Trail.ensures) h))

pub all_differing-requires-clause-kinds : goal.all_differing-requires-clause-kinds
all_differing-requires-clause-kinds c = λ a b h k.
    let is = c.as_slice.ensures.value ∙ c.in_ok-edges_among-in-Trail.ensures in
    edges_alike c.args.spots.now a b (subst (IsIn a) is h) (subst (IsIn b) is k)

pub all_differing-requires-in-Acyclic-clause-keys : goal.all_differing-requires-in-Acyclic-clause-keys
all_differing-requires-in-Acyclic-clause-keys c = λ spot h.
    c.requires.keys spot (vertex_in c.args.spots.now spot (subst (IsIn spot) (c.as_slice-in-Acyclic.ensures.value ∙ c.in_ok-vertices_among-in-Acyclic.ensures) h))

pub all_differing-requires-in-Acyclic-clause-kinds : goal.all_differing-requires-in-Acyclic-clause-kinds
all_differing-requires-in-Acyclic-clause-kinds c = λ a b h k.
    let is = c.as_slice-in-Acyclic.ensures.value ∙ c.in_ok-vertices_among-in-Acyclic.ensures in
    vertices_alike c.args.spots.now a b (subst (IsIn a) is h) (subst (IsIn b) is k)

pub simply_differing-requires-clause-keys : goal.simply_differing-requires-clause-keys
simply_differing-requires-clause-keys c = λ spot h.
    c.requires.keys spot (vertex_in c.args.spots.now spot (subst (IsIn spot) (c.as_slice-in-Simple.ensures.value ∙ c.in_ok-vertices_among-in-Simple.ensures) h))

pub simply_differing-requires-clause-kinds : goal.simply_differing-requires-clause-kinds
simply_differing-requires-clause-kinds c = λ a b h k.
    let is = c.as_slice-in-Simple.ensures.value ∙ c.in_ok-vertices_among-in-Simple.ensures in
    vertices_alike c.args.spots.now a b (subst (IsIn a) is h) (subst (IsIn b) is k)
