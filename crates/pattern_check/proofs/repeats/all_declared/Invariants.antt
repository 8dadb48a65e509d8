use Rattle.std.proofs.Common.{◌≡◌, ◌++◌, drop}
use Rattle.std.specs.List.{flat_map}
use Rattle.pattern_check.specs.Mentions.{row_said}
use Rattle.pattern_check.proofs.repeats.all_declared.Given as goal

abbrev pub invariant-loop-path : goal.invariant-loop-path
invariant-loop-path l = l.all ++ flat_map (flat_map row_said) (drop l.path-index l.paths) ≡ flat_map (flat_map row_said) l.paths
