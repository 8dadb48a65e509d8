use Rattle.std.proofs.Common.{◌≡◌, ap, sym, subst, ◌∙◌, length}
use Rattle.multisets.specs.Bags.{IsIn}
use Rattle.path_lowering.specs.declared.spots.Kind.TheVariants.{Vertex}
use Rattle.path_lowering.specs.declared.spots.Spot.{Spot}
use Rattle.path_lowering.specs.Layable.{IsChoiceAt}
use Rattle.path_lowering.proofs.AnswerLemmas.{spots_many}
use Rattle.path_lowering.proofs.LayableLemmas.{has_key, has_properties}
use Rattle.path_lowering.proofs.ServedLemmas.{choice_at}
use Rattle.path_lowering.proofs.blocks.add_path.Goals as goal

pub add_places-requires : goal.add_places-requires
add_places-requires c =
    ap length c.as_slice.ensures ∙ c.requires.layable.tags
    ∙ sym (ap length (c.as_slice-spots.ensures.value ∙ c.in_ok-made.ensures) ∙ spots_many Vertex c.args.part.now.elements c.args.items.now c.requires.many)

pub path_conditions-requires-clause-properties : goal.path_conditions-requires-clause-properties
path_conditions-requires-clause-properties c = λ spot h.
    has_properties c.args.scene.now.catalog.now c.args.scene.now.graph.now c.requires.valid spot
    (c.requires.layable.elements c.args.items.now c.requires.many spot
    (subst (λ (l : Rattle.std.proofs.Common.List Spot). IsIn spot l) (c.as_slice-spots.ensures.value ∙ c.in_ok-made.ensures) h))

pub path_conditions-requires-clause-keys : goal.path_conditions-requires-clause-keys
path_conditions-requires-clause-keys c = λ spot h.
    has_key c.args.scene.now.catalog.now c.args.scene.now.graph.now c.requires.valid spot
    (c.requires.layable.elements c.args.items.now c.requires.many spot
    (subst (λ (l : Rattle.std.proofs.Common.List Spot). IsIn spot l) (c.as_slice-spots.ensures.value ∙ c.in_ok-made.ensures) h))

pub path_conditions-requires-clause-there : goal.path_conditions-requires-clause-there
path_conditions-requires-clause-there c = λ choice h.
    subst (λ (l : Rattle.std.proofs.Common.List Spot). IsChoiceAt c.args.scene.now.catalog.now c.args.scene.now.graph.now c.args.path.now l choice)
    (sym (c.as_slice-spots.ensures.value ∙ c.in_ok-made.ensures))
    (choice_at c.args.scene.now.catalog.now c.args.scene.now.graph.now c.requires.valid c.args.path.now c.args.part.now c.requires.layable c.args.items.now c.requires.many
    choice h)
