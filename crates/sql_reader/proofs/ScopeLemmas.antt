-- The items in reach of a scope.
use denote.Ref.{Bor}
use Rattle.std.proofs.Common.{◌≡◌, ◌∙◌, [], ◌++◌, refl, sym, ap, Option, Some, None}
use Rattle.sql_reader.specs.declared.reach.Scope.{Scope, out-Scope, roll-out-Scope, map-Scope, fold-roll-Scope}
use Rattle.sql_reader.specs.Reaches.{Reach}
use Rattle.sql_reader.specs.Levels.{scope_step, reach_of}

-- the items of the selects around it
abbrev pub outside : Option (Bor Scope) → Reach
outside None = []
outside (Some outer) = reach_of outer.now

pub at_scope : (r : Scope) → reach_of r ≡ (out-Scope r).own.now ++ outside (out-Scope r).outer
at_scope r = ap reach_of (sym (roll-out-Scope r)) ∙ fold-roll-Scope Reach scope_step (out-Scope r) ∙ by (out-Scope r).own (out-Scope r).outer
  where
    by : (own : Bor Reach) (o : Option (Bor Scope)) → scope_step (map-Scope Scope Reach reach_of (record { own = own; outer = o })) ≡ own.now ++ outside o
    by own None = refl
    by own (Some outer) = refl
