use Rattle.std.proofs.Common.{take}
use Rattle.normal_form.specs.Candidates.{HasSizes}
use Rattle.normal_form.proofs.candidates.sizes_by_ends.Given as goal

abbrev pub invariant-loop-block : goal.invariant-loop-block
invariant-loop-block l = HasSizes l.path (take l.block-index l.blocks) l.sizes
