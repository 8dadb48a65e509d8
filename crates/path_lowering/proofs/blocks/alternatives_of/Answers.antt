use Rattle.path_lowering.proofs.MemberSteps.{item_in}
use Rattle.path_lowering.proofs.blocks.alternatives_of.Goals as goal

pub choice_conditions-requires-clause-there : goal.choice_conditions-requires-clause-there
choice_conditions-requires-clause-there c =
    c.requires.there c.choice-item.result (item_in c.args.alternatives.now c.loop-choice.choice-index c.choice-item.result c.choice-item.is c.loop-choice-test.true)
