use Rattle.std.proofs.Common.{ℕ, ◌&&◌, Bool, List, [], ◌∷◌, map, Bor, Vec, Global, sym, ap, ◌∙◌}
use Rattle.std.specs.List.{list_all}
use Rattle.pgq_base.specs.declared.name.Name.{Name}
use Rattle.normal_form.specs.Rows.{seen}
use Rattle.normal_form.specs.Groups.{has_name}
use Rattle.normal_form.proofs.GroupLemmas.{taken_in, left_out}
use Rattle.normal_form.proofs.groups.common.Goals.{then-is_common+in_ok-push, else-is_common}
use Rattle.normal_form.proofs.groups.common.Goals as goal

abbrev named : Bor Name → List ℕ
named n = n.now

abbrev items : Vec (Bor Name) Global → List (Bor Name)
items v = v.items

pub loop-name-preserved : goal.loop-name-preserved
loop-name-preserved c =
    let p : List ℕ → Bool = λ name. list_all (has_name name) (map (map seen) c.args.rows.now) && list_all (λ part. has_name name (part ∷ [])) (map seen c.args.list.now) in
    elim c.if-is_common.branch [
      | then-is_common+in_ok-push w ↦
          taken_in named p c.args.names.now c.loop-name.name-index c.name-item.result c.loop-name-test.true c.name-item.is c.loop-name.all.items _ c.loop-name.invariant
          c.if-is_common.all.items (ap items w.all-is ∙ w.in_ok-push.ensures.items) (sym c.is_common.ensures ∙ w.if-is_common.true)
      | else-is_common w ↦
          left_out named p c.args.names.now c.loop-name.name-index c.name-item.result c.loop-name-test.true c.name-item.is c.loop-name.all.items _ c.loop-name.invariant
          c.if-is_common.all.items (ap items w.all-is) (sym c.is_common.ensures ∙ w.if-is_common.false)
    ]
