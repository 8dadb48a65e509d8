use Rattle.std.proofs.Common.{◌+◌, cond, ap₂, ◌∙◌, arith}
use Rattle.normal_form.specs.Spending.{counted}
use Rattle.normal_form.specs.Candidates.{ends_of, same_ends, entry}
use Rattle.normal_form.proofs.EndSteps.{block_on}
use Rattle.normal_form.proofs.candidates.sizes_by_ends.Goals as goal

pub loop-block-preserved : goal.loop-block-preserved
loop-block-preserved c = λ ends.
    let block = c.block-item.result in
    let sizes = c.loop-block.sizes in
    c.in_ok-sizes.ensures ends
    ∙ ap₂ (λ e size. cond (same_ends e ends) (counted (entry sizes e + size)) (entry sizes ends)) c.ends_of.ensures c.size_of_block.ensures
    ∙ block_on c.args.path.now c.args.blocks.now c.loop-block.block-index block ends (entry sizes (ends_of block)) (entry sizes ends) (omega arith) c.block-item.is
    (c.loop-block.invariant (ends_of block)) (c.loop-block.invariant ends)
