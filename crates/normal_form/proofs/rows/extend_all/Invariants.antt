use Rattle.std.proofs.Common.{◌≡◌, ◌++◌, ◌≤◌, length, map, flat_map, drop}
use Rattle.normal_form.specs.Rows.{seen, extended}
use Rattle.normal_form.proofs.rows.extend_all.Given as goal

abbrev pub invariant-loop-row : goal.invariant-loop-row
invariant-loop-row l = (map (map seen) l.done ++ flat_map (extended (map (λ n. n.now) l.names) (map seen l.list)) (map (map seen) (drop l.row-index l.rows))
    ≡ flat_map (extended (map (λ n. n.now) l.names) (map seen l.list)) (map (map seen) l.rows)) × (length l.done ≤ l.most)
