use Rattle.std.proofs.Common.{subst, ◌++◌, List, ℕ, arith, map, take}
use Rattle.std.proofs.lemmas.List.{take_all}
use Rattle.std.specs.Prelude.{flat_map}
use Rattle.csv_tables.specs.declared.sorting.Line.{Line}
use Rattle.csv_tables.specs.Writing.{row_line}
use Rattle.csv_tables.specs.Steps.{HasWritten}
use Rattle.csv_tables.proofs.WriterLemmas.{one_more_line}
use Rattle.csv_tables.proofs.writing.put_rows.Goals as goal

pub loop-line-preserved : goal.loop-line-preserved
loop-line-preserved g c text has =
    let line = c.line-item.result in
    let P : List ℕ → Type 0 = λ text. HasWritten g.W.Write.contents c.put.new.writer text in
    let so_far = c.loop-line.invariant text has in
    let wrote = c.in_ok-put.ensures (text ++ flat_map row_line (map (λ line. line.row.now.values) (take c.loop-line.line-index c.args.lines.now))) so_far in
    subst P (one_more_line (λ line. line.row.now.values) text c.args.lines.now c.loop-line.line-index line c.loop-line-test.true c.line-item.is) (rw c.in_ok-fill.ensures at wrote)

pub returns : goal.returns
returns g c text has =
    let lines = c.args.lines.now in
    let P : List Line → Type 0 = λ xs. HasWritten g.W.Write.contents c.loop-line.writer (text ++ flat_map row_line (map (λ line. line.row.now.values) xs)) in
    subst P (take_all c.loop-line.line-index lines (omega arith)) (c.loop-line.invariant text has)
