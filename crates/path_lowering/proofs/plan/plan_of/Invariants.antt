use Rattle.std.proofs.Common.{◌≡◌, ◌≤◌, ◌++◌, map, drop}
use Rattle.path_lowering.specs.Blocks.{plan_after, plan_of}
use Rattle.path_lowering.proofs.plan.plan_of.Given as goal

abbrev pub invariant-loop-tags : goal.invariant-loop-tags
invariant-loop-tags l = record {
  few : l.next ≤ l.tags-index;
  due : l.items.items ++ plan_after (map (λ n. n.now) l.names) (map (λ s. (s.tags.now, s.item)) l.seen.items) l.next (map (λ t. t.now) (drop l.tags-index l.places))
      ≡ plan_of (map (λ n. n.now) l.names) (map (λ t. t.now) l.places);
}
