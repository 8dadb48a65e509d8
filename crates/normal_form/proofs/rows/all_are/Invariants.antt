use Rattle.std.proofs.Common.{◌≡◌, drop, nat_eq}
use Rattle.std.specs.List.{list_all}
use Rattle.graph_meaning.specs.Lists.{tagged}
use Rattle.normal_form.proofs.rows.all_are.Given as goal

abbrev pub invariant-loop-place : goal.invariant-loop-place
invariant-loop-place l = list_all (nat_eq l.element) (tagged l.name (drop l.place l.tags) (drop l.place l.elements)) ≡ list_all (nat_eq l.element) (tagged l.name l.tags l.elements)
