use Rattle.path_lowering.proofs.Facts.{in_map}
use Rattle.path_lowering.proofs.MemberSteps.{item_in}
use Rattle.path_lowering.proofs.sources.sources_of.Goals as goal

pub source_of-requires-clause-there : goal.source_of-requires-clause-there
source_of-requires-clause-there c =
    c.requires.there c.place-item.result.spot
    (in_map (λ p. p.spot) c.place-item.result c.args.places.now (item_in c.args.places.now c.loop-place.place-index c.place-item.result c.place-item.is c.loop-place-test.true))
