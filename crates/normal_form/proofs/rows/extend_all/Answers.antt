use Rattle.std.proofs.Common.{◌≡◌, ℕ, ◌++◌, List, map, length, option_map, option_copied, Option, Some, Bor, subst, sym, ap, ap₂, ◌∙◌, arith}
use Rattle.std.proofs.lemmas.List.{length-map}
use Rattle.pgq_base.specs.declared.name.Name.{Name}
use Rattle.normal_form.specs.declared.rows.Costed.{Costed}
use Rattle.normal_form.specs.Search.{IsWhole}
use Rattle.normal_form.specs.Rows.{seen, extended}
use Rattle.normal_form.specs.Groups.{found, key_of}
use Rattle.normal_form.proofs.GroupLemmas.{found_row, row_on, row_over}
use Rattle.normal_form.proofs.rows.extend_all.Goals as goal

abbrev named : Bor Name → List ℕ
named n = n.now

pub returns-in-None : goal.returns-in-None
returns-in-None c =
    let names : List (List ℕ) = map named c.args.names.now in
    let shared : List (List ℕ) = map named c.as_slice.result.now in
    let key : c.as_slice-in-loop-row-3.result.now ≡ key_of shared (map seen c.row-item.result) =
    c.as_slice-in-loop-row-3.ensures.value ∙ c.in_ok-key.ensures
    ∙ ap₂ (λ (ns : List (Bor Name)) (l : List Costed). key_of (map named ns) (map seen l)) (c.as_slice-in-loop-row.ensures.value ∙ sym c.as_slice.ensures.value)
    c.as_slice-in-loop-row-2.ensures in
    let own : extended names (found (option_copied c.get-group.result)) (map seen c.as_slice-in-loop-row-4.result.now)
    ≡ extended names (map seen c.args.list.now) (map seen c.row-item.result) =
    found_row names c.args.list.now c.args.rows.now c.loop-row.row-index c.row-item.result c.as_slice-in-loop-row-4.result.now c.loop-row-test.true c.row-item.is
    c.as_slice-in-loop-row-4.ensures shared (ap (map named) c.as_slice.ensures.value ∙ c.in_ok-common.ensures) c.in_ok-groups.groups c.in_ok-groups.ensures
    c.as_slice-in-loop-row-3.result.now key (option_copied c.get-group.result) c.get-group.ensures.value in
    let whole : IsWhole c.args.most (option_map (map (map seen)) c.in_ok-extend_by.field-0)
    (map (map seen) c.loop-row.done ++ extended names (map seen c.args.list.now) (map seen c.row-item.result)) =
    subst (λ l. IsWhole c.args.most (option_map (map (map seen)) c.in_ok-extend_by.field-0) (map (map seen) c.loop-row.done ++ l)) own c.in_ok-extend_by.ensures in
    row_over (extended names (map seen c.args.list.now)) c.args.rows.now c.loop-row.row-index c.row-item.result c.loop-row-test.true c.row-item.is
    (map (map seen) c.loop-row.done) _ c.loop-row.invariant.0 c.args.most
    (subst (λ (o : Option (List (List Costed))). IsWhole c.args.most (option_map (map (map seen)) o)
    (map (map seen) c.loop-row.done ++ extended names (map seen c.args.list.now) (map seen c.row-item.result))) c.in-None.is whole)

pub loop-row-preserved : goal.loop-row-preserved
loop-row-preserved c =
    let names : List (List ℕ) = map named c.args.names.now in
    let shared : List (List ℕ) = map named c.as_slice.result.now in
    let key : c.as_slice-in-loop-row-3.result.now ≡ key_of shared (map seen c.row-item.result) =
    c.as_slice-in-loop-row-3.ensures.value ∙ c.in_ok-key.ensures
    ∙ ap₂ (λ (ns : List (Bor Name)) (l : List Costed). key_of (map named ns) (map seen l)) (c.as_slice-in-loop-row.ensures.value ∙ sym c.as_slice.ensures.value)
    c.as_slice-in-loop-row-2.ensures in
    let own : extended names (found (option_copied c.get-group.result)) (map seen c.as_slice-in-loop-row-4.result.now)
    ≡ extended names (map seen c.args.list.now) (map seen c.row-item.result) =
    found_row names c.args.list.now c.args.rows.now c.loop-row.row-index c.row-item.result c.as_slice-in-loop-row-4.result.now c.loop-row-test.true c.row-item.is
    c.as_slice-in-loop-row-4.ensures shared (ap (map named) c.as_slice.ensures.value ∙ c.in_ok-common.ensures) c.in_ok-groups.groups c.in_ok-groups.ensures
    c.as_slice-in-loop-row-3.result.now key (option_copied c.get-group.result) c.get-group.ensures.value in
    let whole : IsWhole c.args.most (option_map (map (map seen)) c.in_ok-extend_by.field-0)
    (map (map seen) c.loop-row.done ++ extended names (map seen c.args.list.now) (map seen c.row-item.result)) =
    subst (λ l. IsWhole c.args.most (option_map (map (map seen)) c.in_ok-extend_by.field-0) (map (map seen) c.loop-row.done ++ l)) own c.in_ok-extend_by.ensures in
    let more : IsWhole c.args.most (Some (map (map seen) c.in-Some.more))
    (map (map seen) c.loop-row.done ++ extended names (map seen c.args.list.now) (map seen c.row-item.result)) =
    subst (λ (o : Option (List (List Costed))). IsWhole c.args.most (option_map (map (map seen)) o)
    (map (map seen) c.loop-row.done ++ extended names (map seen c.args.list.now) (map seen c.row-item.result))) c.in-Some.is whole in (
      row_on (extended names (map seen c.args.list.now)) c.args.rows.now c.loop-row.row-index c.row-item.result c.loop-row-test.true c.row-item.is
          (map (map seen) c.loop-row.done) _ c.loop-row.invariant.0 (map (map seen) c.in-Some.more) more.0,
      omega (arith, length-map c.in-Some.more (map seen), ap length more.0, more.1),
    )
