use Rattle.std.proofs.Common.{ap, length, get_or}
use Rattle.path_lowering.specs.declared.spots.Kind.TheVariants.{Vertex}
use Rattle.path_lowering.proofs.Facts.{in_at}
use Rattle.path_lowering.proofs.sharing.same_as.Goals as goal

pub same_key-requires-clause-b : goal.same_key-requires-clause-b
same_key-requires-clause-b c = c.requires.keys _ (in_at c.args.others.now c.loop-other.other-index (record { kind = Vertex; element = 0; item = 0 }) c.loop-other-test.true)

pub same_key-requires-clause-many : goal.same_key-requires-clause-many
same_key-requires-clause-many c =
    let other = get_or c.args.others.now c.loop-other.other-index (record { kind = Vertex; element = 0; item = 0 }) in
    ap (λ e. length e.key) (c.requires.alike other (in_at c.args.others.now c.loop-other.other-index (record { kind = Vertex; element = 0; item = 0 }) c.loop-other-test.true))
