use Rattle.std.proofs.Common.{◌≡◌, [], drop}
use Rattle.first_faults.specs.Faults.{first_of}
use Rattle.sql_reader.specs.Names.{repeated_columns}
use Rattle.sql_reader.proofs.names.repeated_columns.Given as goal

abbrev pub invariant-loop-column : goal.invariant-loop-column
invariant-loop-column l = first_of l.found (repeated_columns l.seen (drop l.column-index l.columns)) ≡ first_of l.fn.found (repeated_columns [] l.columns)
