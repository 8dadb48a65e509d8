use Rattle.sql_reader.proofs.MadeSelects.{made_select}
use Rattle.sql_reader.proofs.queries.+selects.Goals as goal

pub select_made-returns : goal.select_made-returns
select_made-returns t c =
    made_select c.args.tables.now c.args.select.now _ c.args.outer c.in_ok-columns.columns c.in_ok-from.from c.in_ok-conjuncts.conjuncts c.as_slice.result.now
    c.as_slice-from.result.now c.as_slice-2.result.now
    c.in_ok-columns.ensures c.in_ok-from.ensures c.in_ok-conjuncts.ensures c.in_ok-items.ensures c.as_slice.ensures c.as_slice-from.ensures c.as_slice-2.ensures
