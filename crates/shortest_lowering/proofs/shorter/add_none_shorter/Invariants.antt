use Rattle.std.proofs.Common.{◌≡◌, ◌++◌, map, filter, take}
use Rattle.graph_meaning.specs.Weights.{is_candidate}
use Rattle.sql_algebra.specs.declared.tree.Conjunct.TheVariants.{NotExists}
use Rattle.path_lowering.specs.Apart.{apart}
use Rattle.path_lowering.specs.Shortest.{candidate_laid, candidate_select}
use Rattle.shortest_lowering.proofs.shorter.add_none_shorter.Given as goal

abbrev pub invariant-loop-block : goal.invariant-loop-block
invariant-loop-block l =
    l.all ≡ l.fn.conjuncts ++ map (λ other. NotExists (candidate_select l.scene.catalog.now l.scene.graph.now
    (candidate_laid l.scene.catalog.now l.scene.graph.now apart l.path other) l.outside))
    (filter (is_candidate l.part) (take l.block-index l.blocks))
