use Rattle.std.proofs.Common.{rules, ◌≡◌, Some, Err, sym, subst}
use Rattle.view_check.specs.Phases.{first_fault}
use Rattle.view_check.specs.Checks.{StopLiesIn}
use Rattle.view_check.proofs.SpansInText.{found_lies}
use Rattle.view_check.proofs.checking.check_schema.Goals as goal

pub returns-in-Some-clause-in_text : goal.returns-in-Some-clause-in_text
returns-in-Some-clause-in_text c = λ length h.
    let is : Some c.in-Some.fault ≡ first_fault c.args.tree.now = search rules in
    subst (λ stop. StopLiesIn length (Err stop)) (sym c.refused.ensures) (found_lies length c.args.tree.now c.in-Some.fault is h)
