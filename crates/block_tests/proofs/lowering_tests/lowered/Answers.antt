use Rattle.shortest_lowering.proofs.SmallLemmas.{served_by, blocks_by, path_blocks_by}
use Rattle.block_tests.proofs.lowering_tests.lowered.Goals as goal

pub lower_selected-requires-clause-served : goal.lower_selected-requires-clause-served
lower_selected-requires-clause-served c = served_by c.args.catalog.now c.args.query.now c.requires.catalog c.requires.query

pub lower_selected-requires-clause-blocks : goal.lower_selected-requires-clause-blocks
lower_selected-requires-clause-blocks c = blocks_by c.args.catalog.now c.args.query.now c.requires.catalog c.requires.query c.args.blocks.now c.requires.blocks

pub lower_selected-requires-clause-candidates : goal.lower_selected-requires-clause-candidates
lower_selected-requires-clause-candidates c = path_blocks_by c.args.catalog.now c.args.query.now c.requires.catalog c.requires.query c.args.given.now c.requires.given
