use Rattle.std.proofs.Common.{◌≡◌, map, take}
use Rattle.path_lowering.specs.Emitted.{leaf_in}
use Rattle.path_lowering.proofs.candidates.leaves.Given as goal

abbrev pub invariant-loop-column : goal.invariant-loop-column
invariant-loop-column l = l.made ≡ map (leaf_in l.catalog l.prefix l.side.element.now l.side.item) (take l.column-index l.side.columns.now)
