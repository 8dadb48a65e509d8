use Rattle.std.proofs.Common.{ℕ, ◌-◌, ◌≤◌, List, map, length, Bor, refl, subst, sym, ap, ◌∙◌}
use Rattle.std.proofs.lemmas.List.{length-map}
use Rattle.pgq_base.specs.declared.name.Name.{Name}
use Rattle.normal_form.specs.Rows.{seen}
use Rattle.normal_form.proofs.RowsPaid.{none_given, some_pays, some_free, over, within}
use Rattle.normal_form.proofs.joined.join.Goals.{then-place-lists, else-place-lists}
use Rattle.normal_form.proofs.joined.join.Goals as goal

abbrev named : Bor Name → List ℕ
named n = n.now

pub returns-in-None : goal.returns-in-None
returns-in-None c =
    none_given (map named c.args.names.now) c.args.lists.now c.loop-place.place _ c.loop-place.rows _ c.index-lists-place.result _ c.loop-place-test.true c.index-lists-place.is
    c.as_slice-list.ensures c.as_slice.ensures c.in_ok-extend_all.field-0 c.in_ok-extend_all.ensures c.args.limit c.loop-place.invariant c.in-None.is

pub loop-place-preserved : goal.loop-place-preserved
loop-place-preserved c =
    elim c.if-place-lists.branch [
      | then-place-lists w ↦
          (some_pays (map named c.args.names.now) c.args.lists.now c.loop-place.place _ c.loop-place.rows _ c.index-lists-place.result _ c.loop-place-test.true
          c.index-lists-place.is
          c.as_slice-list.ensures c.as_slice.ensures c.in_ok-extend_all.field-0 c.in_ok-extend_all.ensures c.args.limit c.loop-place.invariant c.in-Some.more c.in-Some.is
          c.if-place-lists.left w.if-place-lists.true (w.left-is ∙ ap (λ n. c.loop-place.left - n) (ap length w.as_slice-then-place-lists.ensures))).1
      | else-place-lists w ↦
          some_free (map named c.args.names.now) c.args.lists.now c.loop-place.place _ c.loop-place.rows _ c.index-lists-place.result _ c.loop-place-test.true
          c.index-lists-place.is
          c.as_slice-list.ensures c.as_slice.ensures c.in_ok-extend_all.field-0 c.in_ok-extend_all.ensures c.args.limit c.loop-place.invariant c.in-Some.more c.in-Some.is
          c.if-place-lists.left w.if-place-lists.false w.left-is
    ]

pub returns-then-as_slice-left : goal.returns-then-as_slice-left
returns-then-as_slice-left c =
    over (map named c.args.names.now) (map (map seen) c.args.lists.now) c.args.limit c.loop-place.place c.loop-place.left c.loop-place.rows _ c.loop-place.invariant
    (subst (λ n. n ≤ c.loop-place.place) (sym (length-map c.args.lists.now (map seen))) c.loop-place-test.false) c.as_slice-2.ensures c.if-as_slice-left.true

pub returns : goal.returns
returns c =
    within (map named c.args.names.now) (map (map seen) c.args.lists.now) c.args.limit c.loop-place.place c.loop-place.left c.loop-place.rows _ c.loop-place.invariant
    (subst (λ n. n ≤ c.loop-place.place) (sym (length-map c.args.lists.now (map seen))) c.loop-place-test.false) c.as_slice-2.ensures _ refl refl c.if-as_slice-left.false
