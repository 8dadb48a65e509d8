use Rattle.std.proofs.Common.{◌≡◌, drop, map}
use Rattle.graph_meaning.specs.Lists.{first_of}
use Rattle.normal_form.specs.Rows.{seen, tagged_along}
use Rattle.normal_form.proofs.rows.held_along.Given as goal

abbrev pub invariant-loop-part : goal.invariant-loop-part
invariant-loop-part l = first_of (tagged_along l.name (map seen (drop l.part-index l.row))) ≡ first_of (tagged_along l.name (map seen l.row))
