use Rattle.std.proofs.Common.{◌≡◌, map, drop, ◌++◌}
use Rattle.graph_ast.specs.Schemas.{tables_among}
use Rattle.view_check.proofs.known.KnownTables.new.Given as goal

abbrev pub invariant-loop-statement : goal.invariant-loop-statement
invariant-loop-statement l =
    (l.names ≡ map (λ t. t.name.name) l.all.items) × (l.all.items ++ tables_among (drop l.statement-index l.statements) ≡ tables_among l.statements)
