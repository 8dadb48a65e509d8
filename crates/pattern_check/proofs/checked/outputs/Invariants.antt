use Rattle.std.proofs.Common.{◌≡◌, ◌++◌, drop, map}
use Rattle.pattern_check.specs.Checked.{output}
use Rattle.pattern_check.proofs.checked.outputs.Given as goal

abbrev pub invariant-loop-item : goal.invariant-loop-item
invariant-loop-item l = l.made ++ map (output l.catalog l.graph) (drop l.item-index l.columns) ≡ map (output l.catalog l.graph) l.columns
