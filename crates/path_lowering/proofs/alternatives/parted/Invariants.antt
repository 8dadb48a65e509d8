use Rattle.std.proofs.Common.{◌≡◌, map, filter, not}
use Rattle.path_lowering.specs.Apart.{is_in_all}
use Rattle.path_lowering.proofs.alternatives.parted.Given as goal

abbrev pub invariant-loop-condition : goal.invariant-loop-condition
invariant-loop-condition l = record {
  common : l.common.items ≡ filter (is_in_all (map (λ a. a.items) l.others)) l.yielded;
  rest : l.rest.items ≡ filter (λ condition. not (is_in_all (map (λ a. a.items) l.others) condition)) l.yielded;
}
