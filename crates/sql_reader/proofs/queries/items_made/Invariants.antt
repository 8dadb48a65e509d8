use Rattle.std.proofs.Common.{◌≡◌, ◌++◌, [], drop}
use Rattle.sql_reader.specs.Levels.{reach_of}
use Rattle.sql_reader.specs.Queries.{items_made}
use Rattle.sql_reader.proofs.queries.items_made.Given as goal

abbrev pub invariant-loop-item : goal.invariant-loop-item
invariant-loop-item l = l.made ++ items_made l.tables (reach_of l.outer) l.chain (drop l.item-index l.items) ≡ items_made l.tables (reach_of l.outer) [] l.items
