use Rattle.std.proofs.Common.{◌≡◌, [], drop, map}
use Rattle.csv_tables.specs.Constraints.{repeats}
use Rattle.csv_tables.specs.Steps.{first_break}
use Rattle.csv_tables.specs.Outcomes.{values_of}
use Rattle.csv_tables.proofs.CheckingLemmas.{before}
use Rattle.csv_tables.proofs.AscendingLemmas.{IsHighest}
use Rattle.csv_tables.proofs.checking.are_ascending.Given as goal

abbrev pub invariant-loop-row : goal.invariant-loop-row
invariant-loop-row l =
    IsHighest l.columns (before l.rows l.row-index) l.last
    × (first_break (repeats l.columns) [] (map values_of l.rows) ≡ first_break (repeats l.columns) (before l.rows l.row-index) (drop l.row-index (map values_of l.rows)))
