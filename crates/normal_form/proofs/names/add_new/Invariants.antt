use Rattle.std.proofs.Common.{◌++◌, map, drop}
use Rattle.normal_form.specs.Rows.{HaveSame}
use Rattle.normal_form.proofs.names.add_new.Given as goal

abbrev pub invariant-loop-name : goal.invariant-loop-name
invariant-loop-name l = HaveSame (map (λ n. n.now) l.names.items ++ map (λ n. n.now) (drop l.name-index l.more)) (map (λ n. n.now) l.fn.names.items ++ map (λ n. n.now) l.more)
