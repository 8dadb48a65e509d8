use Rattle.std.proofs.Common.{◌≡◌, map, drop}
use Rattle.path_lowering.specs.Apart.{is_in_all}
use Rattle.path_lowering.proofs.alternatives.is_in_all.Given as goal

abbrev pub invariant-loop-alternative : goal.invariant-loop-alternative
invariant-loop-alternative l = is_in_all (map (λ a. a.items) (drop l.alternative-index l.alternatives)) l.condition ≡ is_in_all (map (λ a. a.items) l.alternatives) l.condition
