use Rattle.std.proofs.Common.{◌≡◌, ◌++◌, ℕ, List, map, filter, drop}
use Rattle.normal_form.specs.Rows.{seen}
use Rattle.normal_form.specs.Groups.{group_at, has_key}
use Rattle.normal_form.proofs.groups.grouped.Given as goal

abbrev pub invariant-loop-part : goal.invariant-loop-part
invariant-loop-part l = (key : List ℕ) → group_at l.groups key ++ filter (has_key (map (λ n. n.now) l.names) key) (map seen (drop l.part-index l.list))
    ≡ filter (has_key (map (λ n. n.now) l.names) key) (map seen l.list)
