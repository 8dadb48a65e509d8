use Rattle.std.proofs.Common.{◌≡◌, map, drop}
use Rattle.std.specs.List.{list_all}
use Rattle.first_faults.specs.Names.{has_text}
use Rattle.view_check.specs.Clauses.{names_in}
use Rattle.view_check.proofs.clauses.are_texts_within.Given as goal

abbrev pub invariant-loop-name : goal.invariant-loop-name
invariant-loop-name l =
    list_all (λ x. has_text x (names_in l.entries l.other)) (map (λ n. n.now) (drop l.name-index l.texts)) ≡ list_all (λ x. has_text x (names_in l.entries l.other))
    (map (λ n. n.now) l.texts)
