use Rattle.std.proofs.Common.{◌≡◌, map, drop}
use Rattle.std.specs.List.{fold}
use Rattle.normal_form.specs.Merged.{with_finding}
use Rattle.normal_form.specs.Kept.{IsKept, IsWord}
use Rattle.normal_form.proofs.merged.Merged.put_all.Given as goal

abbrev pub invariant-loop-elements : goal.invariant-loop-elements
invariant-loop-elements l =
    IsKept l.merged × IsWord l.merged.words l.tags l.word
    × (fold (with_finding l.path) l.merged.blocks.items (map (λ assignment. ((l.tags, assignment), l.choice)) (drop l.elements-index l.assignments))
    ≡ fold (with_finding l.path) l.fn.self.blocks.items (map (λ assignment. ((l.tags, assignment), l.choice)) l.assignments))
