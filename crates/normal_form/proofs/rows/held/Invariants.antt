use Rattle.std.proofs.Common.{◌≡◌, drop}
use Rattle.graph_meaning.specs.Lists.{first_of, tagged}
use Rattle.normal_form.proofs.rows.held.Given as goal

abbrev pub invariant-loop-place : goal.invariant-loop-place
invariant-loop-place l = first_of (tagged l.name (drop l.place l.tags) (drop l.place l.elements)) ≡ first_of (tagged l.name l.tags l.elements)
