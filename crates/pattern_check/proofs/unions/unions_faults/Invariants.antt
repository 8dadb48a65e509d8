use Rattle.std.proofs.Common.{◌≡◌, drop}
use Rattle.std.specs.List.{flat_map}
use Rattle.first_faults.specs.Faults.{first_of}
use Rattle.pattern_check.specs.NameRules.{union_faults}
use Rattle.pattern_check.proofs.unions.unions_faults.Given as goal

abbrev pub invariant-loop-path : goal.invariant-loop-path
invariant-loop-path l = first_of l.found (flat_map union_faults (drop l.path-index l.paths)) ≡ first_of l.fn.first (flat_map union_faults l.paths)
