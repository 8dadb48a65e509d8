use Rattle.std.proofs.Common.{◌++◌, map, flat_map, drop}
use Rattle.graph_meaning.specs.Choices.{singletons_of}
use Rattle.normal_form.specs.Rows.{HaveSame}
use Rattle.normal_form.proofs.names.all_singletons.Given as goal

abbrev pub invariant-loop-path : goal.invariant-loop-path
invariant-loop-path l = HaveSame (map (λ n. n.now) l.names.items ++ flat_map singletons_of (drop l.path-index l.paths)) (flat_map singletons_of l.paths)
