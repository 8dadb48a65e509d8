use Rattle.std.proofs.Common.{◌≡◌, drop}
use Rattle.query_lowering.specs.Names.{tables_are_named}
use Rattle.query_lowering.proofs.names.tables_are_named.Given as goal

abbrev pub invariant-loop-table : goal.invariant-loop-table
invariant-loop-table l = tables_are_named (drop l.table-index l.tables) ≡ tables_are_named l.tables
