use Rattle.std.proofs.Common.{◌-◌, length, drop, subst, arith}
use Rattle.multisets.specs.Bags.{IsIn}
use Rattle.path_lowering.specs.declared.spots.Kind.TheVariants.{Vertex}
use Rattle.path_lowering.proofs.Facts.{in_at}
use Rattle.path_lowering.proofs.MemberSteps.{in_drop, in_take, in_front}
use Rattle.path_lowering.proofs.modes.simply_differing.Goals as goal

pub differing_from-requires-clause-keys : goal.differing_from-requires-clause-keys
differing_from-requires-clause-keys c = λ other h.
    c.requires.keys other (in_drop other c.args.spots.now 1
    (in_take other (drop 1 c.args.spots.now) (length c.args.spots.now - 1) (in_front other _ (subst (IsIn other) c.front_of.ensures h))))

pub differing_from-requires-clause-kinds : goal.differing_from-requires-clause-kinds
differing_from-requires-clause-kinds c = λ other h.
    c.requires.kinds _ other (in_at c.args.spots.now 0 (record { kind = Vertex; element = 0; item = 0 }) (omega arith))
    (in_drop other c.args.spots.now 1 (in_take other (drop 1 c.args.spots.now) (length c.args.spots.now - 1) (in_front other _ (subst (IsIn other) c.front_of.ensures h))))

pub all_differing-requires-clause-kinds : goal.all_differing-requires-clause-kinds
all_differing-requires-clause-kinds c = λ a b h k.
    c.requires.kinds a b (in_drop a c.args.spots.now 1 (in_take a (drop 1 c.args.spots.now) (length c.args.spots.now - 1) h))
    (in_drop b c.args.spots.now 1 (in_take b (drop 1 c.args.spots.now) (length c.args.spots.now - 1) k))
