use Rattle.std.proofs.Common.{◌≡◌, ◌++◌, map, drop}
use Rattle.normal_form.specs.Rows.{seen}
use Rattle.normal_form.specs.Groups.{common}
use Rattle.normal_form.proofs.groups.common.Given as goal

abbrev pub invariant-loop-name : goal.invariant-loop-name
invariant-loop-name l = map (λ n. n.now) l.all.items ++ common (map (λ n. n.now) (drop l.name-index l.names)) (map seen l.list) (map (map seen) l.rows)
    ≡ common (map (λ n. n.now) l.names) (map seen l.list) (map (map seen) l.rows)
