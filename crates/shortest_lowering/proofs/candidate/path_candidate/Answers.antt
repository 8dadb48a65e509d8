use Rattle.std.proofs.Common.{◌∙◌}
use Rattle.shortest_lowering.proofs.KeyLeaves.{first_has_key, last_has_key, candidate_made}
use Rattle.shortest_lowering.proofs.ShorterSteps.{candidate_alone}
use Rattle.shortest_lowering.proofs.candidate.path_candidate.Goals as goal

pub key_leaves-requires-clause-key : goal.key_leaves-requires-clause-key
key_leaves-requires-clause-key c =
    first_has_key c.args.catalog.now c.args.graph.now c.args.path.now c.args.block.now c.requires c.as_slice-spots.result.now
    (c.as_slice-spots.ensures.value ∙ c.in_ok-made.ensures)

pub key_leaves-requires-2-clause-key : goal.key_leaves-requires-2-clause-key
key_leaves-requires-2-clause-key c =
    last_has_key c.args.catalog.now c.args.graph.now c.args.path.now c.args.block.now c.requires c.as_slice-spots.result.now
    (c.as_slice-spots.ensures.value ∙ c.in_ok-made.ensures)

pub returns : goal.returns
returns c =
    candidate_made c.args.catalog.now c.args.graph.now c.args.path.now c.args.block.now c.requires c.as_slice-spots.result.now
    (c.as_slice-spots.ensures.value ∙ c.in_ok-made.ensures) c.as_slice-elements.result.now c.in_ok-select.select c.in_ok-first_key.first_key c.in_ok-last_key.last_key
    c.as_slice-elements.ensures
    (c.in_ok-select.ensures ∙ candidate_alone c.args.catalog.now c.args.graph.now c.args.path.now c.args.block.now)
    c.in_ok-first_key.ensures c.in_ok-last_key.ensures
