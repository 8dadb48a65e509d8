use Rattle.std.proofs.Common.{◌≡◌, ◌++◌, map, flat_map, drop}
use Rattle.graph_meaning.specs.Choices.{singletons_in}
use Rattle.path_lowering.proofs.blocks.add_singletons.Given as goal

abbrev pub invariant-loop-step : goal.invariant-loop-step
invariant-loop-step l = map (λ n. n.now) l.names.items ++ flat_map singletons_in (drop l.step-index l.steps) ≡ map (λ n. n.now) l.fn.names.items ++ flat_map singletons_in l.steps
