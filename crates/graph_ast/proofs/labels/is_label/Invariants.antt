use Rattle.std.proofs.Common.{◌≡◌, drop, bytes_eq}
use Rattle.std.specs.List.{list_any}
use Rattle.graph_ast.proofs.labels.is_label.Given as goal

abbrev pub invariant-loop-label : goal.invariant-loop-label
invariant-loop-label l = list_any (bytes_eq l.name) (drop l.label-index l.labels) ≡ list_any (bytes_eq l.name) l.labels
