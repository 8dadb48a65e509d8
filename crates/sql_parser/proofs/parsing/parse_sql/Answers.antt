use Rattle.std.proofs.Common.{◌-◌, ◌≤◌, length, Ok, Err, refl, sym, subst, arith}
use Rattle.token_reading.proofs.RefusalLemmas.{span_in_text}
use Rattle.sql_parser.proofs.Whole.{ok, shallow, left_short, first, one_outcome}
use Rattle.sql_parser.proofs.SelectSpans.{spans_lie}
use Rattle.sql_lexer.specs.Spans.{LiesIn}
use Rattle.sql_parser.proofs.parsing.parse_sql.Goals as goal

pub overflow_sub-place : goal.overflow_sub-place
overflow_sub-place c =
    let short : length c.whole.new.tokens ≤ length c.args.tokens.now = left_short c.args.tokens.now c.new-left.result c.new-left.ensures c.in-Err-Refused.cause
    c.whole.new.tokens (rw c.in-Err-Refused.field-0-is at c.in-Err-Refused.ensures) in
    omega (arith, c.count.ensures)

pub returns-in-Ok-clause-ok : goal.returns-in-Ok-clause-ok
returns-in-Ok-clause-ok c = ok c.args.tokens.now c.new-left.result c.new-left.ensures c.in-Ok.text c.whole.new.tokens c.in-Ok.ensures

pub returns-in-Ok-clause-shallow : goal.returns-in-Ok-clause-shallow
returns-in-Ok-clause-shallow c = shallow c.args.tokens.now c.new-left.result c.new-left.ensures c.in-Ok.text c.whole.new.tokens c.in-Ok.ensures

pub returns-in-Ok-clause-due : goal.returns-in-Ok-clause-due
returns-in-Ok-clause-due c = λ due is. one_outcome c.args.tokens.now c.args.end due (Ok c.in-Ok.text) is (
  ok c.args.tokens.now c.new-left.result c.new-left.ensures c.in-Ok.text c.whole.new.tokens c.in-Ok.ensures,
  shallow c.args.tokens.now c.new-left.result c.new-left.ensures
      c.in-Ok.text c.whole.new.tokens c.in-Ok.ensures,
)

pub returns-in-Ok-clause-spans : goal.returns-in-Ok-clause-spans
returns-in-Ok-clause-spans c = λ h. spans_lie c.args.end c.args.tokens.now c.in-Ok.text h
    (ok c.args.tokens.now c.new-left.result c.new-left.ensures c.in-Ok.text c.whole.new.tokens c.in-Ok.ensures)

is_first : goal.returns-in-Err-Refused-clause-refused
is_first c =
    let short : length c.whole.new.tokens ≤ length c.args.tokens.now = left_short c.args.tokens.now c.new-left.result c.new-left.ensures c.in-Err-Refused.cause
    c.whole.new.tokens (rw c.in-Err-Refused.field-0-is at c.in-Err-Refused.ensures) in
    record {
      role = refl;
      detail = refl;
      cause = c.in-Err-Refused.cause;
      code = c.code_for.ensures;
      place = length c.args.tokens.now - c.count.result;
      first = first c.args.tokens.now c.new-left.result c.new-left.ensures c.in-Err-Refused.cause c.whole.new.tokens (length c.args.tokens.now - c.count.result)
          (rw c.in-Err-Refused.field-0-is at c.in-Err-Refused.ensures) (omega (arith, c.count.ensures, short));
      span = c.span_at.ensures;
    }

pub returns-in-Err-Refused-clause-due : goal.returns-in-Err-Refused-clause-due
returns-in-Err-Refused-clause-due c = λ due is. one_outcome c.args.tokens.now c.args.end due (Err _) is (is_first c)

pub returns-in-Err-Refused-clause-refused : goal.returns-in-Err-Refused-clause-refused
returns-in-Err-Refused-clause-refused c = is_first c

pub returns-in-Err-Refused-clause-in_text : goal.returns-in-Err-Refused-clause-in_text
returns-in-Err-Refused-clause-in_text c = λ h. subst (λ s. LiesIn c.args.end s) (sym c.span_at.ensures)
    (span_in_text c.args.end (length c.args.tokens.now - c.count.result) c.args.tokens.now h)
