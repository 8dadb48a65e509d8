use Rattle.std.proofs.Common.{◌≡◌, drop}
use Rattle.first_faults.specs.Faults.{first_of}
use Rattle.pattern_check.specs.Mentions.{rows_said}
use Rattle.pattern_check.specs.NameRules.{unlike_first}
use Rattle.pattern_check.proofs.unions.unlike_first.Given as goal

abbrev pub invariant-loop-i : goal.invariant-loop-i
invariant-loop-i l =
    first_of l.found (unlike_first l.model (rows_said (drop l.i l.operands)) (drop l.i l.joints)) ≡ first_of l.fn.first (unlike_first l.model (rows_said l.operands) l.joints)
