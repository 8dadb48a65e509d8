use Rattle.std.proofs.Common.{◌∙◌}
use Rattle.csv_tables.specs.Constraints.{repeats}
use Rattle.csv_tables.proofs.CheckingLemmas.{before, breaks_later, breaks_nowhere}
use Rattle.csv_tables.proofs.AscendingLemmas.{highest_more, nothing_repeated}
use Rattle.csv_tables.proofs.checking.are_ascending.Goals as goal

pub loop-row-preserved : goal.loop-row-preserved
loop-row-preserved c =
    let columns = c.args.columns.now in
    let rows = c.args.rows.now in
    let i = c.loop-row.row-index in
    let row = c.row-item.result in
    let within = c.loop-row-test.true in
    let next = rw c.as_slice.ensures at (c.is_next.ensures c.if-not-is_next.false) in
    let nothing = nothing_repeated columns (before rows i) c.loop-row.last row.values c.loop-row.invariant.0 next in (
      rw c.as_slice.ensures (highest_more columns rows i row c.loop-row.last within c.row-item.is c.loop-row.invariant.0 next),
      c.loop-row.invariant.1 ∙ breaks_later (repeats columns) rows i row within c.row-item.is nothing,
    )

pub returns : goal.returns
returns c = λ always. c.loop-row.invariant.1 ∙ breaks_nowhere (repeats c.args.columns.now) c.args.rows.now c.loop-row.row-index c.loop-row-test.false
