use Rattle.std.proofs.Common.{ℕ, List, map, Bor}
use Rattle.pgq_base.specs.declared.name.Name.{Name}
use Rattle.normal_form.proofs.GroupLemmas.{grouped_on}
use Rattle.normal_form.proofs.groups.grouped.Goals as goal

abbrev named : Bor Name → List ℕ
named n = n.now

pub loop-part-preserved : goal.loop-part-preserved
loop-part-preserved c = λ key.
    grouped_on (map named c.args.names.now) c.args.list.now c.loop-part.part-index c.part-item.result c.loop-part-test.true c.part-item.is c.in_ok-key.key.items c.in_ok-key.ensures
    key _ _ _ (c.in_ok-groups.ensures key) (c.loop-part.invariant key)
