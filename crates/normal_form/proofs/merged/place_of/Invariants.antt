use Rattle.std.proofs.Common.{◌≡◌, ◌+◌, drop}
use Rattle.std.specs.List.{position_or_len}
use Rattle.graph_meaning.specs.Bindings.{same_tags}
use Rattle.normal_form.proofs.merged.place_of.Given as goal

abbrev pub invariant-loop-i : goal.invariant-loop-i
invariant-loop-i l = l.i + position_or_len (same_tags l.tags) (drop l.i l.words) ≡ position_or_len (same_tags l.tags) l.words
