use Rattle.std.proofs.Common.{◌++◌, ℕ, List, map, take}
use Rattle.std.specs.Prelude.{flat_map}
use Rattle.csv_tables.specs.Writing.{row_line}
use Rattle.csv_tables.specs.Steps.{HasWritten}
use Rattle.csv_tables.proofs.writing.put_rows.Given as goal

abbrev pub invariant-loop-line : goal.invariant-loop-line
invariant-loop-line g l =
    (text : List ℕ) → HasWritten g.W.Write.contents l.fn.writer text
    → HasWritten g.W.Write.contents l.writer (text ++ flat_map row_line (map (λ line. line.row.now.values) (take l.line-index l.lines)))
