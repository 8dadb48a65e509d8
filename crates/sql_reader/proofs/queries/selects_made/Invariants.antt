use Rattle.std.proofs.Common.{◌≡◌, ◌++◌, map, drop}
use Rattle.sql_reader.specs.Levels.{reach_of}
use Rattle.sql_reader.specs.Queries.{select_made}
use Rattle.sql_reader.proofs.queries.selects_made.Given as goal

abbrev pub invariant-loop-select : goal.invariant-loop-select
invariant-loop-select l = l.made ++ map (λ select. select_made l.tables select (reach_of l.outer)) (drop l.select-index l.selects)
    ≡ map (λ select. select_made l.tables select (reach_of l.outer)) l.selects
