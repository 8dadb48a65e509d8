use Rattle.std.proofs.Common.{[], take}
use Rattle.std.specs.List.{list_all}
use Rattle.row_eval.specs.Slots.{is_kept}
use Rattle.row_eval.specs.Ways.{StayTied}
use Rattle.row_eval.proofs.ways.tied_by_all.Given as goal

abbrev pub invariant-loop-member : goal.invariant-loop-member
invariant-loop-member l = StayTied l.place (λ t. list_all (is_kept t) (take l.member-index l.members)) [] l.tied
