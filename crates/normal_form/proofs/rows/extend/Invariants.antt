use Rattle.std.proofs.Common.{◌≡◌, ◌++◌, ◌≤◌, length, map, drop}
use Rattle.normal_form.specs.Rows.{seen, extended}
use Rattle.normal_form.proofs.rows.extend.Given as goal

abbrev pub invariant-loop-part : goal.invariant-loop-part
invariant-loop-part l = (map (map seen) l.done ++ extended (map (λ n. n.now) l.names) (map seen (drop l.part-index l.list)) (map seen l.row)
    ≡ map (map seen) l.fn.done ++ extended (map (λ n. n.now) l.names) (map seen l.list) (map seen l.row)) × (length l.done ≤ l.most)
