use Rattle.path_lowering.proofs.MemberSteps.{item_in}
use Rattle.shortest_lowering.proofs.lower.selects_of.Goals as goal

pub selected_block-requires-clause-ready : goal.selected_block-requires-clause-ready
selected_block-requires-clause-ready c =
    c.requires.ready c.block-item.result (item_in c.args.blocks.now c.loop-block.block-index c.block-item.result c.block-item.is c.loop-block-test.true)

pub selected_block-requires-clause-comparable : goal.selected_block-requires-clause-comparable
selected_block-requires-clause-comparable c =
    c.requires.comparable c.block-item.result (item_in c.args.blocks.now c.loop-block.block-index c.block-item.result c.block-item.is c.loop-block-test.true)
