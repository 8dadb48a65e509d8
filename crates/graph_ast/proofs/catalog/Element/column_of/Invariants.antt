use Rattle.std.proofs.Common.{◌≡◌, drop}
use Rattle.graph_ast.specs.Lookups.{column_named}
use Rattle.graph_ast.proofs.catalog.Element.column_of.Given as goal

abbrev pub invariant-loop-other : goal.invariant-loop-other
invariant-loop-other l = column_named l.property (drop l.other-index l.self.properties) ≡ column_named l.property l.self.properties
