use Rattle.std.proofs.Common.{◌≡◌, drop}
use Rattle.query_lowering.specs.Names.{columns_are_named}
use Rattle.query_lowering.proofs.names.columns_are_named.Given as goal

abbrev pub invariant-loop-column : goal.invariant-loop-column
invariant-loop-column l = columns_are_named (drop l.column-index l.columns) ≡ columns_are_named l.columns
