use Rattle.std.proofs.Common.{◌≡◌}
use Rattle.row_eval.specs.Ties.{untied}
use Rattle.row_eval.proofs.ties.untied_tests.Given as goal

abbrev pub invariant-loop-test : goal.invariant-loop-test
invariant-loop-test l = l.left ≡ untied l.place l.yielded
