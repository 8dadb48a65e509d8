use Rattle.std.proofs.Common.{◌≡◌, [], length}
use Rattle.graph_ast.specs.declared.catalog.Catalog.{Catalog}
use Rattle.sql_algebra.specs.declared.text.SelectText.{SelectText}
use Rattle.first_faults.specs.Faults.{first_of}
use Rattle.sql_reader.specs.Levels.{reach_of}
use Rattle.sql_reader.specs.Reaches.{reach_within}
use Rattle.sql_reader.specs.Phases.{differing_items}
use Rattle.sql_reader.proofs.unions.differing_items.Given as goal

abbrev pub invariant-loop-class : goal.invariant-loop-class
invariant-loop-class l = (catalog : Catalog) → (select : SelectText) → reach_of l.scope ≡ reach_within catalog [] select.from →
    first_of l.found (differing_items catalog select l.classes l.columns) ≡ first_of l.fn.found (differing_items catalog select l.fn.classes l.fn.columns)

abbrev pub decreases-loop-class : goal.decreases-loop-class
decreases-loop-class l = length l.classes
