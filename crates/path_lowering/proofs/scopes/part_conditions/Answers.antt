use Rattle.std.proofs.Common.{arith, rules}
use Rattle.graph_meaning.specs.Choices.{edges_in}
use Rattle.path_lowering.specs.Emitted.{scoped_condition}
use Rattle.path_lowering.proofs.UnrolledLemmas.{product_next, part_on}
use Rattle.path_lowering.proofs.scopes.part_conditions.Goals as goal

pub loop-turn-preserved : goal.loop-turn-preserved
loop-turn-preserved c = record {
  before = (let a = product_next c.loop-turn.turn (edges_in c.args.pieces.now) in let b = c.loop-turn.invariant.before in let d = c.edges_in-before.ensures.value in omega arith);
  due = part_on (scoped_condition c.args.scene.now.catalog.now c.args.scene.now.graph.now c.args.scene.now.prefix c.args.spots.now) _ c.append.new.self.items _
      c.in_ok-more.more.items
      c.args.count c.loop-turn.turn c.loop-turn.before c.edges_in-before.result c.args.pieces.now c.args.conditions.now c.loop-turn-test.true c.edges_in-before.ensures.value
      (search (rules)) (search (rules)) c.loop-turn.invariant.due;
}
