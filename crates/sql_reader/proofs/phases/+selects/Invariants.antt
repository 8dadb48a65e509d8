use Rattle.std.proofs.Common.{◌≡◌, map, drop}
use Rattle.std.specs.List.{flat_map}
use Rattle.first_faults.specs.Faults.{first_of}
use Rattle.sql_reader.specs.Levels.{reach_of}
use Rattle.sql_reader.specs.Phases.{conjunct_faults}
use Rattle.sql_reader.proofs.phases.+selects.Given as goal

abbrev pub invariant-conjuncts_faults-loop-conjunct : goal.invariant-conjuncts_faults-loop-conjunct
invariant-conjuncts_faults-loop-conjunct l
    = first_of l.found (flat_map (λ conjunct. conjunct (reach_of l.scope)) (map (conjunct_faults l.phase l.tables) (drop l.conjunct-index l.conjuncts)))
    ≡ first_of l.fn.found (flat_map (λ conjunct. conjunct (reach_of l.scope)) (map (conjunct_faults l.phase l.tables) l.conjuncts))
