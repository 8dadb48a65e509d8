use Rattle.std.proofs.Common.{◌≡◌, map, drop}
use Rattle.std.specs.List.{list_any}
use Rattle.path_lowering.specs.Blocks.{is_empty}
use Rattle.path_lowering.proofs.alternatives.has_empty.Given as goal

abbrev pub invariant-loop-rest : goal.invariant-loop-rest
invariant-loop-rest l = list_any is_empty (map (λ a. a.items) (drop l.rest-index l.rests)) ≡ list_any is_empty (map (λ a. a.items) l.rests)
