use Rattle.std.proofs.Common.{◌≡◌, ◌∙◌, ap, subst}
use Rattle.std.specs.Prelude.{◌||◌}
use Rattle.std.specs.List.{list_any}
use Rattle.pgq_base.specs.Instances.{same_values}
use Rattle.distinct_rows.specs.KeyOrder.{holds, values_in}
use Rattle.distinct_rows.proofs.HeldRows.{held_inserted}
use Rattle.distinct_rows.proofs.counting.add.Goals as goal

pub returns-clause-grown : goal.returns-clause-grown
returns-clause-grown c values =
    let before = c.args.seen.now in
    let grown : holds c.insert.new.self values ≡ (same_values values c.as_slice-values.result.now || holds before values) =
    ap (list_any (λ k. same_values values (values_in k))) c.in_ok-fresh.ensures.keys ∙ held_inserted (record { values = c.as_slice-values.result }) before.keys values in
    subst (λ row. holds c.insert.new.self values ≡ (same_values values row || holds before values)) c.as_slice-values.ensures grown
