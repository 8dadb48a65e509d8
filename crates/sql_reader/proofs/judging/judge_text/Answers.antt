use Rattle.std.proofs.Common.{◌≡◌, Some, sym, ap, ◌∙◌, subst}
use Rattle.sql_lexer.specs.Spans.{RefusalLiesIn}
use Rattle.sql_reader.specs.Phases.{first_fault}
use Rattle.sql_reader.proofs.SoundAnswers.{fault_lies}
use Rattle.sql_reader.proofs.judging.judge_text.Goals as goal

pub returns-in-Some-clause-in_text : goal.returns-in-Some-clause-in_text
returns-in-Some-clause-in_text c = λ length lie.
    let found : first_fault c.args.catalog.now c.args.text.now ≡ Some c.in-Some.fault =
    sym (ap (λ catalog. first_fault catalog c.args.text.now) c.in_ok-tables.ensures) ∙ sym c.in_ok-fault.ensures ∙ c.in-Some.is in
    subst (RefusalLiesIn length) (sym c.refused.ensures) (fault_lies c.args.catalog.now c.args.text.now length lie c.in-Some.fault found)
