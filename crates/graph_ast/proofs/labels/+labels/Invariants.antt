use Rattle.std.proofs.Common.{◌≡◌, map, drop}
use Rattle.std.specs.List.{list_all, list_any}
use Rattle.graph_ast.specs.Labels.{holds}
use Rattle.graph_ast.proofs.labels.+labels.Given as goal

abbrev pub invariant-all_hold-loop-expr : goal.invariant-all_hold-loop-expr
invariant-all_hold-loop-expr l = list_all (λ e. e) (map (holds l.labels) (drop l.expr-index l.list)) ≡ list_all (λ e. e) (map (holds l.labels) l.list)

abbrev pub invariant-any_holds-loop-expr : goal.invariant-any_holds-loop-expr
invariant-any_holds-loop-expr l = list_any (λ e. e) (map (holds l.labels) (drop l.expr-index l.list)) ≡ list_any (λ e. e) (map (holds l.labels) l.list)
