use Rattle.std.proofs.Common.{◌≡◌, ◌++◌, map, flat_map, drop}
use Rattle.graph_meaning.specs.Choices.{singletons_of}
use Rattle.graph_meaning.specs.Answers.{query_singletons}
use Rattle.path_lowering.proofs.blocks.query_singletons.Given as goal

abbrev pub invariant-loop-path : goal.invariant-loop-path
invariant-loop-path l = map (λ n. n.now) l.names.items ++ flat_map singletons_of (drop l.path-index l.query.paths) ≡ query_singletons l.query
