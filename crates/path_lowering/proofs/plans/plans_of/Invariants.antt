use Rattle.std.proofs.Common.{◌≡◌, map, take}
use Rattle.path_lowering.specs.Planning.{plan_of_block}
use Rattle.path_lowering.proofs.plans.plans_of.Given as goal

abbrev pub invariant-loop-block : goal.invariant-loop-block
invariant-loop-block l = l.made ≡ map (plan_of_block l.query) (take l.block-index l.blocks)
