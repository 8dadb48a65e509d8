use Rattle.std.proofs.Common.{◌≡◌, ◌++◌, map, drop}
use Rattle.normal_form.specs.Rows.{seen}
use Rattle.normal_form.proofs.joined.blocks_of.Given as goal

abbrev pub invariant-loop-row : goal.invariant-loop-row
invariant-loop-row l = l.all ++ map (λ row. record { paths = map (λ part. part.0) row }) (map (map seen) (drop l.row-index l.rows))
    ≡ map (λ row. record { paths = map (λ part. part.0) row }) (map (map seen) l.rows)
