use Rattle.std.proofs.Common.{◌≡◌}
use Rattle.path_lowering.specs.Planning.{plan_of_block}
use Rattle.path_lowering.proofs.MemberSteps.{item_in}
use Rattle.path_lowering.proofs.PathSteps.{mapped_next}
use Rattle.path_lowering.proofs.plans.plans_of.Goals as goal

pub plan_of_block-requires : goal.plan_of_block-requires
plan_of_block-requires c = c.requires c.block-item.result (item_in c.args.blocks.now c.loop-block.block-index c.block-item.result c.block-item.is c.loop-block-test.true)

pub loop-block-preserved : goal.loop-block-preserved
loop-block-preserved c =
    mapped_next (plan_of_block c.args.query.now) c.args.blocks.now c.loop-block.block-index c.block-item.result c.in_ok-plan_of_block.field-0 c.loop-block.made c.push.new.self
    c.block-item.is
    c.loop-block-test.true c.loop-block.invariant c.in_ok-plan_of_block.ensures c.in_ok-push.ensures.ok
