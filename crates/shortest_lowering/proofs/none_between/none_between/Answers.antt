use Rattle.std.proofs.Common.{sym, ap}
use Rattle.graph_meaning.proofs.Members.{in_map}
use Rattle.path_lowering.proofs.MemberSteps.{item_in}
use Rattle.shortest_lowering.proofs.none_between.none_between.Goals as goal

pub select_between-requires : goal.select_between-requires
select_between-requires c =
    c.requires c.candidate-item.result.now
    (in_map (λ r. r.now) c.candidate-item.result c.args.candidates.now
    (item_in c.args.candidates.now c.loop-candidate.candidate-index c.candidate-item.result c.candidate-item.is c.loop-candidate-test.true))
