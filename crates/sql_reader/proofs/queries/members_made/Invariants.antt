use Rattle.std.proofs.Common.{◌≡◌, ◌++◌, map, drop}
use Rattle.sql_reader.specs.Levels.{reach_of}
use Rattle.sql_reader.specs.Queries.{value_made}
use Rattle.sql_reader.proofs.queries.members_made.Given as goal

abbrev pub invariant-loop-member : goal.invariant-loop-member
invariant-loop-member l = l.made ++ map (value_made (reach_of l.scope)) (drop l.member-index l.members) ≡ map (value_made (reach_of l.scope)) l.members
