-- Path blocks by the elements that they have at some names.
use Rattle.std.specs.Prelude.{ℕ, ◌≡◌, Bool, ◌&&◌, nat_eq, List, [], ◌∷◌, map, filter, Option, None, Some, is_some, unwrap_or, Vec}
use Rattle.std.specs.Global.{Global}
use Rattle.std.specs.List.{list_all}
use Rattle.std.specs.HashMap.{HashMap, get_by}
use Rattle.std.specs.Cmp.Lexicographic.{pointwise}
use Rattle.graph_meaning.specs.Lists.{first_of}
use Rattle.normal_form.specs.declared.rows.Costed.{Costed}
use Rattle.normal_form.specs.Rows.{BlockCost, seen, tagged_along}

-- the elements that stand first in a row at some names, and 0 at each that it does not have
abbrev pub key_of : List (List ℕ) → List BlockCost → List ℕ
key_of names row = map (λ name. unwrap_or (first_of (tagged_along name row)) 0) names

-- whether a path block has these elements at the names
abbrev pub has_key : List (List ℕ) → List ℕ → BlockCost → Bool
has_key names key part = pointwise nat_eq key (key_of names (part ∷ []))

-- whether some place of a row is tagged with a name
abbrev pub has_name : List ℕ → List BlockCost → Bool
has_name name row = is_some (first_of (tagged_along name row))

-- the names that all rows and all path blocks have
abbrev pub common : List (List ℕ) → List BlockCost → List (List BlockCost) → List (List ℕ)
common names list rows = filter (λ name. list_all (has_name name) rows && list_all (λ part. has_name name (part ∷ [])) list) names

-- the path blocks that are found
abbrev pub found : Option (List Costed) → List BlockCost
found None = []
found (Some group) = map seen group

-- the path blocks at a key
abbrev pub group_at : {S : Type 0} → HashMap (Vec ℕ Global) (List Costed) S → List ℕ → List BlockCost
group_at groups key = found (get_by (λ other. pointwise nat_eq key other.items) groups)

-- at each key stand the path blocks that have it, in their order
abbrev pub AreGroups : {S : Type 0} → List (List ℕ) → List BlockCost → HashMap (Vec ℕ Global) (List Costed) S → Type 0
AreGroups names list groups = (key : List ℕ) → group_at groups key ≡ filter (has_key names key) list
