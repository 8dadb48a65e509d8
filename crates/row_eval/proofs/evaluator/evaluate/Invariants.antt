use Rattle.std.proofs.Common.{◌≡◌, ◌+◌, ◌≤◌, [], length, take}
use Rattle.std.specs.Prelude.{flat_map}
use Rattle.sql_algebra.specs.Meaning.{select_rows}
use Rattle.row_eval.specs.Stored.{row_values}
use Rattle.row_eval.proofs.SelectsLemmas.{selects_bound}
use Rattle.row_eval.proofs.evaluator.evaluate.Given as goal

abbrev pub invariant-loop-select : goal.invariant-loop-select
invariant-loop-select g l = record {
  rows : row_values l.out ≡ flat_map (λ select. select_rows l.catalog (g.R.RowSource.tables l.rows) select []) (take l.select-index l.query.selects);
  few : length l.out ≤ 1000000;
  read : l.steps ≤ l.fn.steps + selects_bound l.catalog (g.R.RowSource.tables l.rows) (take l.select-index l.query.selects);
}
