use Rattle.std.proofs.Common.{◌≡◌, ◌++◌, map, drop}
use Rattle.path_lowering.proofs.blocks.add_tags.Given as goal

abbrev pub invariant-loop-tags : goal.invariant-loop-tags
invariant-loop-tags l = map (λ t. t.now) l.all.items ++ drop l.tags-index l.part.tags ≡ map (λ t. t.now) l.fn.all.items ++ l.part.tags
