use Rattle.std.proofs.Common.{◌≡◌, ◌++◌, map, drop}
use Rattle.sql_reader.specs.Levels.{reach_of}
use Rattle.sql_reader.specs.Queries.{conjunct_made}
use Rattle.sql_reader.proofs.queries.+selects.Given as goal

abbrev pub invariant-conjuncts_made-loop-conjunct : goal.invariant-conjuncts_made-loop-conjunct
invariant-conjuncts_made-loop-conjunct l = l.made ++ map (λ conjunct. conjunct (reach_of l.scope)) (map (conjunct_made l.tables) (drop l.conjunct-index l.conjuncts))
    ≡ map (λ conjunct. conjunct (reach_of l.scope)) (map (conjunct_made l.tables) l.conjuncts)
