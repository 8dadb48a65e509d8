use Rattle.std.proofs.Common.{◌≡◌, drop}
use Rattle.std.specs.List.{flat_map, list_all}
use Rattle.pattern_check.specs.Scopes.{path_conditions}
use Rattle.pattern_check.specs.Served.{is_plain}
use Rattle.pattern_check.proofs.served.paths_are_plain.Given as goal

abbrev pub invariant-loop-path : goal.invariant-loop-path
invariant-loop-path l = list_all is_plain (flat_map path_conditions (drop l.path-index l.paths)) ≡ list_all is_plain (flat_map path_conditions l.paths)
