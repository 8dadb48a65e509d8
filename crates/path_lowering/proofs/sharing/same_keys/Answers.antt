use Rattle.std.proofs.Common.{◌-◌, length, drop, arith}
use Rattle.path_lowering.specs.declared.spots.Kind.TheVariants.{Vertex}
use Rattle.path_lowering.proofs.Facts.{in_at}
use Rattle.path_lowering.proofs.MemberSteps.{in_drop, in_take}
use Rattle.path_lowering.proofs.sharing.same_keys.Goals as goal

pub same_as-requires-clause-keys : goal.same_as-requires-clause-keys
same_as-requires-clause-keys c = λ other h. c.requires.keys other (in_drop other c.args.spots.now 1 (in_take other (drop 1 c.args.spots.now) (length c.args.spots.now - 1) h))

pub same_as-requires-clause-alike : goal.same_as-requires-clause-alike
same_as-requires-clause-alike c = λ other h.
    c.requires.alike _ other (in_at c.args.spots.now 0 (record { kind = Vertex; element = 0; item = 0 }) (omega arith))
    (in_drop other c.args.spots.now 1 (in_take other (drop 1 c.args.spots.now) (length c.args.spots.now - 1) h))
