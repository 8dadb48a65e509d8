use Rattle.std.proofs.Common.{◌≡◌, ◌++◌, map, drop}
use Rattle.normal_form.specs.Rows.{seen}
use Rattle.normal_form.specs.Costs.{with_costs}
use Rattle.normal_form.proofs.costs.costed.Given as goal

abbrev pub invariant-loop-place : goal.invariant-loop-place
invariant-loop-place l = map (map seen) l.all ++ with_costs l.several (drop l.place l.paths) (drop l.place l.lists) ≡ with_costs l.several l.paths l.lists
