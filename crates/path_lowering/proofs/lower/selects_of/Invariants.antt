use Rattle.std.proofs.Common.{◌≡◌, map, take}
use Rattle.path_lowering.specs.Lowered.{select_of_block}
use Rattle.path_lowering.specs.Apart.{apart}
use Rattle.path_lowering.proofs.lower.selects_of.Given as goal

abbrev pub invariant-loop-block : goal.invariant-loop-block
invariant-loop-block l = l.made ≡ map (select_of_block l.scene.catalog.now l.scene.graph.now l.scene.prefix apart l.query) (take l.block-index l.blocks)
