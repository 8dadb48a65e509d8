use Rattle.std.proofs.Common.{◌-◌, ◌+◌, drop, length}
use Rattle.path_lowering.specs.declared.spots.Kind.TheVariants.{Vertex}
use Rattle.path_lowering.proofs.Facts.{in_at}
use Rattle.path_lowering.proofs.MemberSteps.{in_drop, in_take}
use Rattle.path_lowering.proofs.modes.all_differing.Goals as goal

pub differing_from-requires-clause-own : goal.differing_from-requires-clause-own
differing_from-requires-clause-own c = c.requires.keys _ (in_at c.args.spots.now c.loop-i.i (record { kind = Vertex; element = 0; item = 0 }) c.loop-i-test.true)

pub differing_from-requires-clause-keys : goal.differing_from-requires-clause-keys
differing_from-requires-clause-keys c = λ other h.
    c.requires.keys other (in_drop other c.args.spots.now (c.loop-i.i + 1) (in_take other (drop (c.loop-i.i + 1) c.args.spots.now) (length c.args.spots.now - (c.loop-i.i + 1)) h))

pub differing_from-requires-clause-kinds : goal.differing_from-requires-clause-kinds
differing_from-requires-clause-kinds c = λ other h.
    c.requires.kinds _ other (in_at c.args.spots.now c.loop-i.i (record { kind = Vertex; element = 0; item = 0 }) c.loop-i-test.true)
    (in_drop other c.args.spots.now (c.loop-i.i + 1) (in_take other (drop (c.loop-i.i + 1) c.args.spots.now) (length c.args.spots.now - (c.loop-i.i + 1)) h))
