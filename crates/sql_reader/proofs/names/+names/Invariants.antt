use Rattle.std.proofs.Common.{◌≡◌, map, drop}
use Rattle.std.specs.List.{flat_map}
use Rattle.expr_tree.specs.Leaves.{leaves_in, joined}
use Rattle.first_faults.specs.Faults.{first_of}
use Rattle.sql_reader.specs.Levels.{reach_of}
use Rattle.sql_reader.specs.Names.{leaf_names}
use Rattle.sql_reader.proofs.names.+names.Given as goal

abbrev pub invariant-list_names-loop-value : goal.invariant-list_names-loop-value
invariant-list_names-loop-value l =
    first_of l.found (flat_map (leaf_names (reach_of l.scope)) (joined (map leaves_in (drop l.value-index l.list))))
    ≡ first_of l.fn.found (flat_map (leaf_names (reach_of l.scope)) (joined (map leaves_in l.list)))
