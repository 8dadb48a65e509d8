-- A test of all members of a list in two parts.
use Rattle.std.proofs.Common.{◌≡◌, ◌&&◌, Bool, List, ◌++◌}
use Rattle.std.specs.List.{list_all}
use Rattle.std.proofs.lemmas.List.Folds.{list_all-append}

pub all_append : {X : Type 0} (f : X → Bool) (xs ys : List X) → list_all f (xs ++ ys) ≡ (list_all f xs && list_all f ys)
all_append f xs ys = list_all-append f xs ys
