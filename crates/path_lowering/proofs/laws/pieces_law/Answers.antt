use Rattle.std.proofs.Common.{◌-◌, ◌+◌, sym, ap, ap₂, ◌∙◌, option_map}
use Rattle.std.proofs.lemmas.Option.{slice_get-map}
use Rattle.graph_meaning.specs.Readings.{allows, leads}
use Rattle.graph_meaning.specs.View.{edge_of}
use Rattle.path_lowering.specs.Spots.{standing, row_at}
use Rattle.path_lowering.specs.Emitted.{spot_in, spot_by}
use Rattle.graph_meaning.specs.Conditions.{held_by, held_in}
use Rattle.path_lowering.specs.Spots.{elements_at}
use Rattle.path_lowering.proofs.EdgeLemmas.{edge_means}
use Rattle.path_lowering.proofs.PieceLemmas.{got_in}
use Rattle.path_lowering.proofs.ModeLemmas.{mode_means}
use Rattle.path_lowering.proofs.SharingLemmas.{sharing_means}
use Rattle.path_lowering.proofs.ConditionLemmas.{condition_means, follows_scope, follows_tags}
use Rattle.path_lowering.proofs.laws.pieces_law.Goals as goal

pub returns-clause-edge : goal.returns-clause-edge
returns-clause-edge c = λ catalog graph instance prefix env rows spots valid fits shows place direction left edge right l e r lk ek rk may.
    edge_means catalog graph instance prefix env rows spots valid fits shows edge (got_in spots place edge e) ek direction left right (got_in spots (place - 1) left l)
    (got_in spots (place + 1) right r) lk rk may
    ∙ sym (ap₂ (λ a b. allows direction (leads (edge_of graph edge.element (row_at rows edge)) a b) (leads (edge_of graph edge.element (row_at rows edge)) b a))
    (slice_get-map (standing graph rows) spots (place - 1) ∙ ap (option_map (standing graph rows)) l)
    (slice_get-map (standing graph rows) spots (place + 1) ∙ ap (option_map (standing graph rows)) r))

pub returns-clause-mode : goal.returns-clause-mode
returns-clause-mode c = mode_means

pub returns-clause-shared : goal.returns-clause-shared
returns-clause-shared c = sharing_means

pub returns-clause-within : goal.returns-clause-within
returns-clause-within c = λ catalog graph instance prefix env rows spots valid fits shows scope condition plain.
    condition_means catalog graph instance prefix env rows spots valid fits shows (spot_in scope spots) (held_in scope (elements_at graph rows spots))
    (follows_scope catalog graph instance prefix env rows spots valid fits shows scope) condition plain

pub returns-clause-whole : goal.returns-clause-whole
returns-clause-whole c = λ catalog graph instance prefix env rows spots valid fits shows tags condition plain.
    condition_means catalog graph instance prefix env rows spots valid fits shows (spot_by tags spots) (held_by tags (elements_at graph rows spots))
    (follows_tags catalog graph instance prefix env rows spots valid fits shows tags) condition plain
