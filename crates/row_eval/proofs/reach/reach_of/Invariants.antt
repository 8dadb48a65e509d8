use Rattle.std.proofs.Common.{◌≡◌, ◌+◌, ◌++◌, drop, length}
use Rattle.row_eval.specs.Scopes.{placed, own_places, reach_under}
use Rattle.row_eval.proofs.reach.reach_of.Given as goal

abbrev pub invariant-loop-index : goal.invariant-loop-index
invariant-loop-index l = placed l.reach.items ++ own_places (length l.outer + l.index) (drop l.index l.items) ≡ own_places (length l.outer) l.items

abbrev pub invariant-loop-reached : goal.invariant-loop-reached
invariant-loop-reached l = placed l.reach.items ++ placed (drop l.reached-index l.outer) ≡ reach_under l.items (placed l.outer)
