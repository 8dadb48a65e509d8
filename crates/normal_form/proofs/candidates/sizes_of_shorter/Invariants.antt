use Rattle.std.proofs.Common.{◌≡◌, filter}
use Rattle.std.specs.List.{sum_by}
use Rattle.graph_meaning.specs.Weights.{block_size}
use Rattle.normal_form.specs.Spending.{counted}
use Rattle.normal_form.proofs.EndSteps.{is_shorter}
use Rattle.normal_form.proofs.candidates.sizes_of_shorter.Given as goal

abbrev pub invariant-loop-places : goal.invariant-loop-places
invariant-loop-places l = l.total ≡ counted (sum_by (block_size l.path) (filter (is_shorter l.first l.last l.places) l.blocks))
