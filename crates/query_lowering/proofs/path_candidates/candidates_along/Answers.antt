use Rattle.path_lowering.proofs.MemberSteps.{item_in}
use Rattle.path_lowering.proofs.PathSteps.{mapped_next}
use Rattle.shortest_lowering.specs.PathCandidates.{path_candidate}
use Rattle.query_lowering.proofs.path_candidates.candidates_along.Goals as goal

pub path_candidate-requires : goal.path_candidate-requires
path_candidate-requires c = c.requires c.block-item.result (item_in c.args.blocks.now c.loop-block.block-index c.block-item.result c.block-item.is c.loop-block-test.true)

pub loop-block-preserved : goal.loop-block-preserved
loop-block-preserved c =
    mapped_next (path_candidate c.args.catalog.now c.args.graph.now c.args.path.now) c.args.blocks.now c.loop-block.block-index c.block-item.result
    c.in_ok-path_candidate.field-0 c.loop-block.all c.push.new.self c.block-item.is c.loop-block-test.true c.loop-block.invariant c.in_ok-path_candidate.ensures
    c.in_ok-push.ensures.ok
