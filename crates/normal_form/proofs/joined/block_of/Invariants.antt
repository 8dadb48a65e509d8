use Rattle.std.proofs.Common.{◌≡◌, ◌++◌, map, drop}
use Rattle.normal_form.specs.Rows.{seen}
use Rattle.normal_form.proofs.joined.block_of.Given as goal

abbrev pub invariant-loop-part : goal.invariant-loop-part
invariant-loop-part l = l.paths ++ map (λ part. part.0) (map seen (drop l.part-index l.row)) ≡ map (λ part. part.0) (map seen l.row)
