use Rattle.std.proofs.Common.{◌≡◌, ◌++◌, drop}
use Rattle.std.specs.List.{filter_map}
use Rattle.view_check.specs.KeyLists.{key_names}
use Rattle.view_check.proofs.known.with_keys.Given as goal

abbrev pub invariant-loop-rule : goal.invariant-loop-rule
invariant-loop-rule l =
    l.keys.items ++ filter_map (λ r. key_names r.kind) (drop l.rule-index l.rules) ≡ l.fn.keys.items ++ filter_map (λ r. key_names r.kind) l.rules
