-- The places that a group keeps.
use Rattle.std.specs.Prelude.{ℕ, List, []}
use Rattle.row_eval.specs.declared.group.Kept.{Kept}
use Rattle.row_eval.specs.declared.group.Kept.TheVariants as kept

-- the places, in order
abbrev pub kept_places : Kept → List ℕ
kept_places kept.Empty = []
kept_places (kept.One places) = places
kept_places (kept.Two places) = places
kept_places (kept.Three places) = places
kept_places (kept.Many places) = places.items
