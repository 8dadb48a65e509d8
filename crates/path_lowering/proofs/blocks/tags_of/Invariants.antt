use Rattle.std.proofs.Common.{◌≡◌, ◌++◌, map, flat_map, drop}
use Rattle.path_lowering.proofs.blocks.tags_of.Given as goal

abbrev pub invariant-loop-part : goal.invariant-loop-part
invariant-loop-part l = map (λ t. t.now) l.all.items ++ flat_map (λ part. part.tags) (drop l.part-index l.parts) ≡ flat_map (λ part. part.tags) l.parts
