use Rattle.std.proofs.lemmas.Cmp.{lists_total}
use Rattle.pgq_base.specs.Values.{value_order}
use Rattle.pgq_base.proofs.TotalOrder.{value_order_total}
use Rattle.pgq_base.proofs.ValueOrder.{exact_value, value_itself, exact_list}
use Rattle.pgq_base.proofs.laws.rows_sort_once.Goals as goal

pub returns-clause-values : goal.returns-clause-values
returns-clause-values c = value_order_total

pub returns-clause-exact_values : goal.returns-clause-exact_values
returns-clause-exact_values c = exact_value

pub returns-clause-rows : goal.returns-clause-rows
returns-clause-rows c = lists_total value_order_total

pub returns-clause-exact_rows : goal.returns-clause-exact_rows
returns-clause-exact_rows c = exact_list value_order exact_value value_itself
