use Rattle.std.proofs.Common.{◌∙◌, sym, ap}
use Rattle.graph_ast.specs.declared.blocks.PathBlock.{PathBlock}
use Rattle.graph_meaning.specs.Weights.{is_candidate}
use Rattle.graph_meaning.proofs.Members.{in_filter}
use Rattle.sql_algebra.specs.declared.tree.Conjunct.TheVariants.{NotExists}
use Rattle.path_lowering.specs.Apart.{apart}
use Rattle.path_lowering.specs.Shortest.{candidate_laid, candidate_select}
use Rattle.path_lowering.proofs.MemberSteps.{item_in}
use Rattle.shortest_lowering.proofs.ShorterSteps.{passed_next, left_next}
use Rattle.shortest_lowering.proofs.shorter.add_none_shorter.Goals as goal
use Rattle.shortest_lowering.proofs.shorter.add_none_shorter.Goals.{then-is_shorter+in_ok-select+in_ok-new+in_ok-push, else-is_shorter}

pub candidate_select-requires : goal.candidate_select-requires
candidate_select-requires c =
    c.requires c.block-item.result
    (in_filter (is_candidate c.args.part.now) c.block-item.result c.args.blocks.now
    (item_in c.args.blocks.now c.loop-block.block-index c.block-item.result c.block-item.is c.loop-block-test.true)
    (sym c.is_candidate-is_shorter.ensures ∙ c.if-is_shorter.true))

pub loop-block-preserved : goal.loop-block-preserved
loop-block-preserved c =
    elim c.if-is_shorter.branch [
      | then-is_shorter+in_ok-select+in_ok-new+in_ok-push w ↦
          w.all-is
          ∙ passed_next (λ (other : PathBlock). NotExists (candidate_select c.args.scene.now.catalog.now c.args.scene.now.graph.now
          (candidate_laid c.args.scene.now.catalog.now c.args.scene.now.graph.now apart c.args.path.now other) c.args.outside.now))
          (is_candidate c.args.part.now) c.args.blocks.now c.loop-block.block-index c.block-item.result c.block-item.is c.loop-block-test.true
          c.args.conjuncts c.loop-block.all w.push.new.self
          (NotExists w.in_ok-new.field-0) c.loop-block.invariant (sym c.is_candidate-is_shorter.ensures ∙ w.if-is_shorter.true)
          (ap NotExists (w.in_ok-new.ensures ∙ w.in_ok-select.ensures)) w.in_ok-push.ensures.ok
      | else-is_shorter w ↦
          w.all-is
          ∙ left_next (λ (other : PathBlock). NotExists (candidate_select c.args.scene.now.catalog.now c.args.scene.now.graph.now
          (candidate_laid c.args.scene.now.catalog.now c.args.scene.now.graph.now apart c.args.path.now other) c.args.outside.now))
          (is_candidate c.args.part.now) c.args.blocks.now c.loop-block.block-index c.block-item.result c.block-item.is c.loop-block-test.true
          c.args.conjuncts c.loop-block.all
          c.loop-block.invariant (sym c.is_candidate-is_shorter.ensures ∙ w.if-is_shorter.false)
    ]
