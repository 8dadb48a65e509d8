use Rattle.std.proofs.Common.{◌≡◌, ◌++◌, map, drop}
use Rattle.normal_form.specs.Rows.{seen}
use Rattle.normal_form.proofs.joined.all_free.Given as goal

abbrev pub invariant-loop-blocks : goal.invariant-loop-blocks
invariant-loop-blocks l = map (map seen) l.all ++ map (map (λ block. (block, 0))) (drop l.blocks-index l.lists) ≡ map (map (λ block. (block, 0))) l.lists
