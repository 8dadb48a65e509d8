use Rattle.std.proofs.Common.{◌≡◌, map, take}
use Rattle.graph_meaning.specs.Choices.{expansion_of}
use Rattle.path_lowering.specs.Emitted.{choice_conditions}
use Rattle.path_lowering.proofs.blocks.alternatives_of.Given as goal

abbrev pub invariant-loop-choice : goal.invariant-loop-choice
invariant-loop-choice l = map (λ a. a.items) l.made.items
    ≡ map (λ choice. choice_conditions l.scene.catalog.now l.scene.graph.now l.scene.prefix (expansion_of l.path choice) l.spots) (take l.choice-index l.alternatives)
