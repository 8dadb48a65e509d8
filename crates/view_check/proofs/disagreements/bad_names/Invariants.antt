use Rattle.std.proofs.Common.{◌≡◌, ◌++◌, map, drop}
use Rattle.view_check.specs.Firsts.{bad_from, bad_names}
use Rattle.view_check.proofs.disagreements.bad_names.Given as goal

abbrev pub invariant-loop-i : goal.invariant-loop-i
invariant-loop-i l = map (λ n. n.now) l.all ++ bad_from l.by.1 l.by.0.now l.entry l.i (drop l.i l.entry.columns) ≡ bad_names l.by.1 l.by.0.now l.entry
