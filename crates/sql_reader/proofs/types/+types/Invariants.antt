use Rattle.std.proofs.Common.{◌≡◌, map, drop}
use Rattle.first_faults.specs.Faults.{first_of}
use Rattle.sql_reader.specs.Levels.{reach_of}
use Rattle.sql_reader.specs.Types.{leaf_class, typed, total, operands_faults, differing}
use Rattle.sql_reader.proofs.types.+types.Given as goal

abbrev pub invariant-operands-loop-tree : goal.invariant-operands-loop-tree
invariant-operands-loop-tree l =
    (drop (total (map (typed (leaf_class (reach_of l.scope))) (drop l.tree-index l.list))) l.rest ≡ drop (total (map (typed (leaf_class (reach_of l.scope))) l.list)) l.spans) ×
    (first_of l.found (operands_faults l.demand (map (typed (leaf_class (reach_of l.scope))) (drop l.tree-index l.list)) l.rest)
    ≡ first_of l.fn.found (operands_faults l.demand (map (typed (leaf_class (reach_of l.scope))) l.list) l.spans))

abbrev pub invariant-members-loop-tree : goal.invariant-members-loop-tree
invariant-members-loop-tree l =
    (drop (total (map (typed (leaf_class (reach_of l.scope))) (drop l.tree-index l.others))) l.rest ≡ drop (total (map (typed (leaf_class (reach_of l.scope))) l.list)) l.spans) ×
    (first_of l.found (operands_faults l.asked (map (typed (leaf_class (reach_of l.scope))) (drop l.tree-index l.others)) l.rest)
    ≡ first_of l.fn.found (differing (map (typed (leaf_class (reach_of l.scope))) l.list) l.spans))
