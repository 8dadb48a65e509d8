use Rattle.std.proofs.Common.{◌≡◌, ◌++◌, drop}
use Rattle.normal_form.proofs.copies.copy_choices.Given as goal

abbrev pub invariant-loop-choice : goal.invariant-loop-choice
invariant-loop-choice l = l.all ++ drop l.choice-index l.choices ≡ l.choices
