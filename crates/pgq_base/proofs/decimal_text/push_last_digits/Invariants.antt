use Rattle.std.proofs.Common.{◌≡◌, ◌≤◌, ◌++◌}
use Rattle.pgq_base.specs.DecimalTexts.{last_digits}
use Rattle.pgq_base.proofs.decimal_text.push_last_digits.Given as goal

abbrev pub invariant-loop-count : goal.invariant-loop-count
invariant-loop-count l = record {
  few : l.count ≤ 18;
  same : l.text ++ last_digits l.count l.number ≡ l.initial.text ++ last_digits l.fn.count l.number;
}

abbrev pub decreases-loop-count : goal.decreases-loop-count
decreases-loop-count l = l.count
