use Rattle.path_lowering.specs.Lowered.{select_of_block}
use Rattle.path_lowering.specs.Apart.{apart}
use Rattle.path_lowering.proofs.MemberSteps.{item_in}
use Rattle.path_lowering.proofs.PathSteps.{mapped_next}
use Rattle.path_lowering.proofs.lower.selects_of.Goals as goal

pub select_of_block-requires-clause-ready : goal.select_of_block-requires-clause-ready
select_of_block-requires-clause-ready c =
    c.requires.ready c.block-item.result (item_in c.args.blocks.now c.loop-block.block-index c.block-item.result c.block-item.is c.loop-block-test.true)

pub loop-block-preserved : goal.loop-block-preserved
loop-block-preserved c =
    mapped_next (select_of_block c.args.scene.now.catalog.now c.args.scene.now.graph.now c.args.scene.now.prefix apart c.args.query.now) c.args.blocks.now c.loop-block.block-index
    c.block-item.result c.in_ok-select_of_block.field-0 c.loop-block.made c.push.new.self c.block-item.is c.loop-block-test.true c.loop-block.invariant
    c.in_ok-select_of_block.ensures
    c.in_ok-push.ensures.ok
