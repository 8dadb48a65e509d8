use Rattle.std.proofs.Common.{◌≡◌, ◌||◌, not, ℕ, List, map, drop}
use denote.Ref.{Bor}
use Rattle.std.specs.List.{list_any}
use Rattle.first_faults.specs.Names.{has_text}
use Rattle.pattern_check.proofs.around.some_lacks.Given as goal

abbrev pub invariant-loop-names : goal.invariant-loop-names
invariant-loop-names l =
    (l.some || list_any (λ names. not (has_text l.name names)) (map (λ (names : Bor (List (List ℕ))). names.now) (drop l.names-index l.lists))) ≡
    list_any (λ names. not (has_text l.name names)) (map (λ (names : Bor (List (List ℕ))). names.now) l.lists)
