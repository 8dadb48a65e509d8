-- Rows in a set.
use Rattle.std.specs.Prelude.{Bool}
use Rattle.std.specs.List.{list_any}
use Rattle.std.specs.declared.cmp.Ordering.{Ordering}
use Rattle.std.specs.Cmp.{IsTotalOrder, IsEquivalence}
use Rattle.std.specs.Cmp.Lexicographic.{slice_cmp}
use Rattle.std.specs.Ordering.{on, eq_by_cmp}
use Rattle.std.specs.BTreeSet.{BTreeSet}
use Rattle.std.proofs.lemmas.Cmp.{lists_total, on_total, eq_by_cmp_equiv}
use Rattle.pgq_base.specs.Values.{value_order}
use Rattle.pgq_base.specs.Instances.{RowValues, same_values}
use Rattle.pgq_base.proofs.TotalOrder.{value_order_total}
use Rattle.distinct_rows.specs.declared.keys.RowKey.{RowKey}

abbrev pub values_in : RowKey → RowValues
values_in key = key.values.now

abbrev pub row_order : RowValues → RowValues → Ordering
row_order a b = slice_cmp value_order a b

abbrev pub key_order : RowKey → RowKey → Ordering
key_order = on values_in row_order

pub row_total : IsTotalOrder row_order
row_total = lists_total value_order_total

pub key_total : IsTotalOrder key_order
key_total = on_total values_in row_total

pub key_equivalence : IsEquivalence (eq_by_cmp key_order)
key_equivalence = eq_by_cmp_equiv key_total

-- whether a row with these values is in the set
abbrev pub holds : BTreeSet RowKey → RowValues → Bool
holds set values = list_any (λ key. same_values values (values_in key)) set.keys
