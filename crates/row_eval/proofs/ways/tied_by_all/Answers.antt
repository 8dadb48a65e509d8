use Rattle.std.proofs.Common.{◌<◌, length, arith}
use Rattle.row_eval.proofs.WayLemmas.{tied_next}
use Rattle.row_eval.proofs.ways.tied_by_all.Goals as goal

pub loop-member-preserved : goal.loop-member-preserved
loop-member-preserved c =
    let within : c.loop-member.member-index < length c.args.members.now = omega arith in
    tied_next c.args.place c.args.members.now c.loop-member.member-index c.member-item.result c.loop-member.tied c.in_ok-tied.tied within c.member-item.is
    c.loop-member.invariant c.in_ok-tied.ensures
