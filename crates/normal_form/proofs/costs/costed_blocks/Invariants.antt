use Rattle.std.proofs.Common.{◌≡◌, ◌++◌, map, drop}
use Rattle.normal_form.specs.Rows.{seen}
use Rattle.normal_form.specs.Spending.{counted}
use Rattle.normal_form.specs.Costs.{cost_among}
use Rattle.normal_form.proofs.costs.costed_blocks.Given as goal

abbrev pub invariant-loop-block : goal.invariant-loop-block
invariant-loop-block l =
    map seen l.all ++ map (λ block. (block, counted (cost_among l.several l.path l.blocks block))) (drop l.block-index l.blocks)
    ≡ map (λ block. (block, counted (cost_among l.several l.path l.blocks block))) l.blocks
