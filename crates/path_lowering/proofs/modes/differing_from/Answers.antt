use Rattle.std.proofs.Common.{arith, get_or}
use Rattle.path_lowering.specs.declared.spots.Kind.TheVariants.{Vertex}
use Rattle.path_lowering.proofs.Facts.{in_at}
use Rattle.path_lowering.proofs.MemberSteps.{keys_alike}
use Rattle.path_lowering.proofs.modes.differing_from.Goals as goal

pub differing-requires-clause-b : goal.differing-requires-clause-b
differing-requires-clause-b c = c.requires.keys _ (in_at c.args.others.now c.loop-other.other-index (record { kind = Vertex; element = 0; item = 0 }) c.loop-other-test.true)

pub differing-requires-clause-many : goal.differing-requires-clause-many
differing-requires-clause-many c =
    let other = get_or c.args.others.now c.loop-other.other-index (record { kind = Vertex; element = 0; item = 0 }) in
    keys_alike c.args.scene.now.graph.now c.args.spot.now other
    (c.requires.kinds other (in_at c.args.others.now c.loop-other.other-index (record { kind = Vertex; element = 0; item = 0 }) c.loop-other-test.true)) (omega arith)
