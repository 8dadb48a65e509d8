use Rattle.std.proofs.Common.{◌≡◌, [], drop, map}
use Rattle.first_faults.specs.Faults.{first_of}
use Rattle.pattern_check.specs.Mentions.{rows_said}
use Rattle.pattern_check.specs.Repeats.{said_faults}
use Rattle.pattern_check.proofs.repeats.declaration_faults.Given as goal

abbrev pub invariant-loop-path : goal.invariant-loop-path
invariant-loop-path l =
    first_of l.found (said_faults l.settled (map rows_said (drop l.path-index l.paths))) ≡ first_of l.fn.first (said_faults [] (map rows_said l.paths))
