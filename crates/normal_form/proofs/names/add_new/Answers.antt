use Rattle.std.proofs.Common.{◌≡◌, ℕ, true, List, map, bytes_eq, Bor, Vec, Global, ap, ◌∙◌}
use Rattle.std.specs.List.{list_any}
use Rattle.pgq_base.specs.declared.name.Name.{Name}
use Rattle.normal_form.proofs.NameLemmas.{name_added, name_known}
use Rattle.normal_form.proofs.names.add_new.Goals.{then-not-is_among+in_ok-push, else-not-is_among}
use Rattle.normal_form.proofs.names.add_new.Goals as goal

abbrev named : Bor Name → List ℕ
named n = n.now

abbrev items : Vec (Bor Name) Global → List (Bor Name)
items v = v.items

pub loop-name-preserved : goal.loop-name-preserved
loop-name-preserved c =
    elim c.if-not-is_among.branch [
      | then-not-is_among+in_ok-push w ↦
          name_added named c.args.more.now c.loop-name.name-index c.name-item.result c.loop-name-test.true c.name-item.is c.loop-name.names.items _ c.loop-name.invariant
          c.if-not-is_among.names.items (ap items w.names-is ∙ w.in_ok-push.ensures.items)
      | else-not-is_among w ↦
          let among : list_any (bytes_eq c.name-item.result.now) (map named c.loop-name.names.items) ≡ true = cc in
          name_known named c.args.more.now c.loop-name.name-index c.name-item.result c.loop-name-test.true c.name-item.is c.loop-name.names.items _ c.loop-name.invariant
          c.if-not-is_among.names.items (ap items w.names-is) among
    ]
