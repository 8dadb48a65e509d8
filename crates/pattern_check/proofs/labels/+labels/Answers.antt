use Rattle.std.proofs.Common.{rules, ◌∙◌, ◌+◌, ◌<◌, List, ap, map, drop, length}
use Rattle.std.specs.List.{flat_map}
use Rattle.graph_ast.specs.declared.schema.Named.{Named}
use Rattle.first_faults.specs.Faults.{first_of}
use Rattle.pattern_check.specs.NameRules.{unknown_label, labels_in, row_labels}
use Rattle.pattern_check.proofs.PatternSteps.{given_on}
use Rattle.pattern_check.proofs.labels.+labels.Goals as goal

pub in_labels-loop-expr-preserved : goal.in_labels-loop-expr-preserved
in_labels-loop-expr-preserved t c =
    let xs = c.args.list.now in
    let w = unknown_label c.args.graph.now in
    let within : c.loop-expr.expr-index < length c.args.list.now = search rules in
    ap (λ o. first_of o (flat_map w (row_labels (map labels_in (drop (c.loop-expr.expr-index + 1) xs))))) c.in_label-found.ensures
    ∙ given_on w (λ (own : List Named). own) labels_in c.loop-expr.found xs c.loop-expr.expr-index c.expr-item.result within c.expr-item.is ∙ c.loop-expr.invariant
