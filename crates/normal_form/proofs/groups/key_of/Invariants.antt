use Rattle.std.proofs.Common.{◌≡◌, ◌++◌, map, drop}
use Rattle.normal_form.specs.Rows.{seen}
use Rattle.normal_form.specs.Groups.{key_of}
use Rattle.normal_form.proofs.groups.key_of.Given as goal

abbrev pub invariant-loop-name : goal.invariant-loop-name
invariant-loop-name l = l.key.items ++ key_of (map (λ n. n.now) (drop l.name-index l.names)) (map seen l.row) ≡ key_of (map (λ n. n.now) l.names) (map seen l.row)
