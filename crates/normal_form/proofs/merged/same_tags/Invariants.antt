use Rattle.std.proofs.Common.{◌≡◌, drop}
use Rattle.graph_meaning.specs.Bindings.{same_tags}
use Rattle.normal_form.proofs.merged.same_tags.Given as goal

abbrev pub invariant-loop-i : goal.invariant-loop-i
invariant-loop-i l = same_tags (drop l.i l.first) (drop l.i l.second) ≡ same_tags l.first l.second
