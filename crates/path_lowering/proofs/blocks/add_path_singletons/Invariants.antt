use Rattle.std.proofs.Common.{◌≡◌, ◌++◌, map, flat_map, drop}
use Rattle.graph_meaning.specs.Choices.{singletons_in, singletons_of}
use Rattle.path_lowering.proofs.blocks.add_path_singletons.Given as goal

abbrev pub invariant-loop-operand : goal.invariant-loop-operand
invariant-loop-operand l = map (λ n. n.now) l.names.items ++ flat_map (λ operand. flat_map singletons_in operand.steps) (drop l.operand-index l.path.operands)
    ≡ map (λ n. n.now) l.fn.names.items ++ singletons_of l.path
