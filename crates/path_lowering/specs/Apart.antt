-- What all alternatives of a path block share, apart from the rest of each.
use Rattle.std.specs.Prelude.{Bool, not, List, [], ◌∷◌, map, filter}
use Rattle.std.specs.List.{list_all, list_any}
use Rattle.path_lowering.specs.Emitted.{SqlCondition}
use Rattle.path_lowering.specs.Blocks.{shared_outside}
use Rattle.path_lowering.specs.Lowered.{Combining}
use Rattle.path_lowering.specs.Sameness.{same_condition}

abbrev pub is_among : List SqlCondition → SqlCondition → Bool
is_among conditions condition = list_any (same_condition condition) conditions

-- whether each of some alternatives has the condition
abbrev pub is_in_all : List (List SqlCondition) → SqlCondition → Bool
is_in_all alternatives condition = list_all (λ alternative. is_among alternative condition) alternatives

abbrev pub without : List SqlCondition → List SqlCondition → List SqlCondition
without common alternative = filter (λ condition. not (is_among common condition)) alternative

-- of several alternatives what all share, and one OR of the rest of each
abbrev pub split : List SqlCondition → List (List SqlCondition) → List SqlCondition
split first others =
    shared_outside (filter (is_in_all others) first)
    (filter (λ condition. not (is_in_all others condition)) first ∷ map (without (filter (is_in_all others) first)) others)

-- one alternative as it is
abbrev pub apart : Combining
apart [] = shared_outside [] []
apart (alternative ∷ []) = alternative
apart (first ∷ second ∷ more) = split first (second ∷ more)
