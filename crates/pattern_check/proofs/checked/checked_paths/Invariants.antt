use Rattle.std.proofs.Common.{◌≡◌, ◌++◌, drop, map}
use Rattle.pattern_check.specs.Checked.{checked_path}
use Rattle.pattern_check.proofs.checked.checked_paths.Given as goal

abbrev pub invariant-loop-path : goal.invariant-loop-path
invariant-loop-path l = l.made ++ map (checked_path l.catalog l.graph) (drop l.path-index l.paths) ≡ map (checked_path l.catalog l.graph) l.paths
