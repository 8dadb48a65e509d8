-- The reach of a select, as code holds it: its own items, and the reach around it.
use Rattle.std.specs.Prelude.{[], ◌++◌, Some, None}
use Rattle.sql_reader.specs.declared.reach.Scope.{Scope, Scope-F, fold-Scope}
use Rattle.sql_reader.specs.Reaches.{Reach}

abbrev pub scope_step : Scope-F Reach → Reach
scope_step scope = scope.own.now ++ elim (scope.outer) [ None ↦ [] | Some outer ↦ outer.now ]

abbrev pub reach_of : Scope → Reach
reach_of = fold-Scope Reach scope_step
