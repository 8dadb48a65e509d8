use Rattle.std.proofs.Common.{◌≡◌, not, map, drop}
use Rattle.std.specs.List.{list_any}
use Rattle.first_faults.specs.Names.{is_among}
use Rattle.view_check.proofs.disagreements.is_one_outside.Given as goal

abbrev pub invariant-loop-n : goal.invariant-loop-n
invariant-loop-n l =
    list_any (λ n. not (is_among n l.except)) (map (λ n. n.now) (drop l.n-index l.names)) ≡ list_any (λ n. not (is_among n l.except)) (map (λ n. n.now) l.names)
