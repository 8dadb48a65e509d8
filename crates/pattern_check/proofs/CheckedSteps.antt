-- What a tree without faults of the phase limits gives to its path patterns.
use Rattle.std.proofs.Common.{◌≡◌, ◌++◌, []}
use Rattle.std.specs.List.{flat_map}
use Rattle.graph_ast.specs.declared.query.PathTree.{PathTree}
use Rattle.graph_ast.specs.declared.query.QueryTree.{QueryTree}
use Rattle.graph_ast.specs.Patterns.{body_given}
use Rattle.pattern_check.specs.SizeRules.{large, inner_faults, path_faults, size_faults, too_many_choices, path_too_long, too_many_paths}
use Rattle.pattern_check.proofs.Faultless.{left_none}

pub inner_none : (path : PathTree) → path_faults path ≡ [] → inner_faults (body_given large path.body) ≡ []
unfolding path_faults
inner_none path h =
    left_none (inner_faults (body_given large path.body)) (too_many_choices path) (left_none (inner_faults (body_given large path.body) ++ too_many_choices path)
    (path_too_long path) h)

pub paths_none : (tree : QueryTree) → size_faults tree ≡ [] → flat_map path_faults tree.paths ≡ []
unfolding size_faults
paths_none tree h = left_none (flat_map path_faults tree.paths) (too_many_paths tree.paths) h
