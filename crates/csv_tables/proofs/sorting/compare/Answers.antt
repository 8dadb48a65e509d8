use Rattle.std.proofs.Common.{sym, ap, ◌∙◌}
use Rattle.std.specs.Ordering.{ordering_reverse}
use Rattle.csv_tables.specs.KeyHashes.{row_total}
use Rattle.csv_tables.proofs.RankLemmas.{lower}
use Rattle.csv_tables.proofs.sorting.compare.Goals as goal

pub returns-then-a-b : goal.returns-then-a-b
returns-then-a-b c =
    let a = c.args.a.now in
    let b = c.args.b.now in
    sym (lower a.row.now.values b.row.now.values a.rank b.rank a.ranked b.ranked c.if-a-b.true)

pub returns-then-b-a : goal.returns-then-b-a
returns-then-b-a c =
    let a = c.args.a.now in
    let b = c.args.b.now in
    let lower_other = lower b.row.now.values a.row.now.values b.rank a.rank b.ranked a.ranked c.if-b-a.true in
    sym (row_total.antisymm a.row.now.values b.row.now.values ∙ ap ordering_reverse lower_other)
