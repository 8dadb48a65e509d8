use Rattle.std.proofs.Common.{◌≡◌, map, take}
use Rattle.path_lowering.specs.Apart.{apart}
use Rattle.shortest_lowering.specs.Selected.{selected_block}
use Rattle.shortest_lowering.proofs.lower.selects_of.Given as goal

abbrev pub invariant-loop-block : goal.invariant-loop-block
invariant-loop-block l = l.made ≡ map (selected_block l.scene.catalog.now l.scene.graph.now apart l.query) (take l.block-index l.blocks)
