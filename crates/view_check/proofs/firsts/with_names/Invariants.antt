use Rattle.std.proofs.Common.{◌≡◌, ℕ, List, cond, None, drop, bytes_eq}
use Rattle.std.specs.List.{list_any}
use Rattle.first_faults.specs.Names.{is_among}
use Rattle.view_check.specs.Firsts.{first_named, or_first, all_but}
use Rattle.view_check.proofs.firsts.with_names.Given as goal

abbrev pub invariant-loop-n : goal.invariant-loop-n
invariant-loop-n l = (q : List ℕ) →
    or_first (first_named l.firsts q) (cond (is_among q (drop l.n-index l.names)) (all_but l.entry l.at.1.now l.at.0 q) None) ≡
    or_first (first_named l.fn.firsts q) (cond (is_among q l.names) (all_but l.entry l.at.1.now l.at.0 q) None)
