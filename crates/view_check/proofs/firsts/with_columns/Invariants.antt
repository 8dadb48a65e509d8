use Rattle.std.proofs.Common.{◌≡◌, ℕ, List, cond, None, drop, bytes_eq}
use Rattle.std.specs.List.{list_any}
use Rattle.view_check.specs.Firsts.{first_named, or_first, all_but}
use Rattle.view_check.proofs.firsts.with_columns.Given as goal

abbrev pub invariant-loop-column : goal.invariant-loop-column
invariant-loop-column l = (q : List ℕ) →
    or_first (first_named l.firsts q) (cond (list_any (λ c. bytes_eq c.name q) (drop l.column-index l.entry.columns)) (all_but l.entry l.at.1.now l.at.0 q) None) ≡
    or_first (first_named l.fn.firsts q) (all_but l.entry l.at.1.now l.at.0 q)
