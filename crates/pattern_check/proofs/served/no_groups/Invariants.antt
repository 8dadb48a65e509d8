use Rattle.std.proofs.Common.{◌≡◌, drop}
use Rattle.std.specs.List.{list_all}
use Rattle.pattern_check.specs.Served.{has_no_groups}
use Rattle.pattern_check.proofs.served.no_groups.Given as goal

abbrev pub invariant-loop-path : goal.invariant-loop-path
invariant-loop-path l = list_all has_no_groups (drop l.path-index l.paths) ≡ list_all has_no_groups l.paths
