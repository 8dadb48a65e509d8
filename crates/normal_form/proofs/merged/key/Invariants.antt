use Rattle.std.proofs.Common.{◌≡◌, ◌++◌, ◌∷◌, drop}
use Rattle.normal_form.proofs.merged.key.Given as goal

abbrev pub invariant-loop-element : goal.invariant-loop-element
invariant-loop-element l = l.key.items ++ drop l.element-index l.elements ≡ l.word ∷ l.elements
