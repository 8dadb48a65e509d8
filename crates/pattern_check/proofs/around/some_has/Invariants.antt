use Rattle.std.proofs.Common.{◌≡◌, ◌||◌, ℕ, List, map, drop}
use denote.Ref.{Bor}
use Rattle.std.specs.List.{list_any}
use Rattle.first_faults.specs.Names.{has_text}
use Rattle.pattern_check.proofs.around.some_has.Given as goal

abbrev pub invariant-loop-names : goal.invariant-loop-names
invariant-loop-names l =
    (l.some || list_any (has_text l.name) (map (λ (names : Bor (List (List ℕ))). names.now) (drop l.names-index l.lists))) ≡
    list_any (has_text l.name) (map (λ (names : Bor (List (List ℕ))). names.now) l.lists)
