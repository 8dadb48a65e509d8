use Rattle.std.proofs.Common.{◌≡◌, map, take}
use Rattle.graph_meaning.specs.Choices.{greatest}
use Rattle.path_lowering.specs.Placed.{latest_in, aliases_of}
use Rattle.path_lowering.proofs.placing.+latest.Given as goal

abbrev pub invariant-latest_of_all-loop-condition : goal.invariant-latest_of_all-loop-condition
invariant-latest_of_all-loop-condition l = l.latest ≡ greatest (map (latest_in (aliases_of l.slots)) (take l.condition-index l.list))
