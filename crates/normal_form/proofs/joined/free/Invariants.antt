use Rattle.std.proofs.Common.{◌≡◌, ◌++◌, map, drop}
use Rattle.normal_form.specs.Rows.{seen}
use Rattle.normal_form.proofs.joined.free.Given as goal

abbrev pub invariant-loop-block : goal.invariant-loop-block
invariant-loop-block l = map seen l.all ++ map (λ block. (block, 0)) (drop l.block-index l.blocks) ≡ map (λ block. (block, 0)) l.blocks
