use Rattle.std.proofs.Common.{◌≡◌, drop, map}
use Rattle.normal_form.specs.Rows.{seen, joins}
use Rattle.normal_form.proofs.rows.joins.Given as goal

abbrev pub invariant-loop-name : goal.invariant-loop-name
invariant-loop-name l = joins (map (λ n. n.now) (drop l.name-index l.names)) (map seen l.row) l.block ≡ joins (map (λ n. n.now) l.names) (map seen l.row) l.block
