use Rattle.std.proofs.Common.{◌≡◌, ◌+◌, take}
use Rattle.pgq_base.specs.Instances.{rows_at}
use Rattle.row_eval.specs.Slots.{lent_rows}
use Rattle.row_eval.proofs.index.rows_read.Given as goal

abbrev pub invariant-loop-place : goal.invariant-loop-place
invariant-loop-place g l = record {
  lent : lent_rows l.lent.items ≡ take l.place (rows_at (g.R.RowSource.tables l.rows) l.table);
  read : l.steps ≡ l.fn.steps + l.place;
}
