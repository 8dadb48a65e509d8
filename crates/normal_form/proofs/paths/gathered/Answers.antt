use Rattle.std.proofs.Common.{map, List, subst, arith}
use Rattle.graph_ast.specs.declared.blocks.Alternative.{Alternative}
use Rattle.multisets.specs.Bags.{IsIn}
use Rattle.graph_meaning.specs.Blocks.{Shape, shapes_of}
use Rattle.normal_form.specs.Merged.{Finding, with_finding, findings, gathered}
use Rattle.normal_form.proofs.Merging.{gather_step, there, choice_within}
use Rattle.normal_form.proofs.paths.gathered.Goals as goal

pub with_shapes-requires-clause-operand : goal.with_shapes-requires-clause-operand
with_shapes-requires-clause-operand c =
    choice_within c.args.path.now c.choice-item.result
    (subst (λ (l : List Alternative). IsIn c.choice-item.result l) c.requires.all
    (there c.args.alternatives.now c.loop-choice.choice-index c.choice-item.result (omega arith) c.choice-item.is))

pub loop-choice-preserved : goal.loop-choice-preserved
loop-choice-preserved c =
    let made : Alternative → List Finding = λ choice. map (λ (shape : Shape). (shape, choice)) (shapes_of c.args.ground.now.graph.now c.args.path.now choice) in (
      c.in_ok-merged.ensures.kept,
      gather_step (with_finding c.args.place) made c.args.alternatives.now c.loop-choice.choice-index c.choice-item.result c.loop-choice.merged.blocks.items
          c.in_ok-merged.merged.blocks.items
          (gathered c.args.place (findings c.args.ground.now.graph.now c.args.path.now)) (omega arith) c.choice-item.is c.in_ok-merged.ensures.blocks c.loop-choice.invariant.1,
    )
