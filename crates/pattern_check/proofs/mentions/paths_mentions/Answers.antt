use Rattle.std.proofs.Common.{rules, ◌∙◌, ◌+◌, ◌<◌, ◌++◌, false, ap, drop, map, length}
use Rattle.graph_ast.specs.declared.query.PathTree.{PathTree}
use Rattle.graph_ast.specs.Patterns.{body_given}
use Rattle.pattern_check.specs.Scopes.{declaring}
use Rattle.pattern_check.specs.Mentions.{placed, at_operand, row_declares}
use Rattle.pattern_check.proofs.ScopeSteps.{pushed}
use Rattle.pattern_check.proofs.mentions.paths_mentions.Goals as goal

pub loop-path-preserved : goal.loop-path-preserved
loop-path-preserved c = λ number operand.
    let xs = c.args.paths.now in
    let within : c.loop-path.path-index < length c.args.paths.now = search rules in
    ap (λ l. map (map (map (placed number operand))) l
    ++ map (λ (tree : PathTree). map (row_declares (at_operand number operand false)) (body_given declaring tree.body).operands) (drop (c.loop-path.path-index + 1) xs))
    c.in_ok-push.ensures.ok
    ∙ pushed (map (map (placed number operand))) (λ (tree : PathTree). map (row_declares (at_operand number operand false)) (body_given declaring tree.body).operands)
    c.loop-path.all _
    xs c.loop-path.path-index c.path-item.result within c.path-item.is (c.in_ok-operands.ensures number operand) ∙ c.loop-path.invariant number operand
