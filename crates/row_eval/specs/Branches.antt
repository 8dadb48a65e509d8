-- Joins whose rows are tried one after another, and what is still found on them.
use Rattle.std.specs.Prelude.{◌≡◌, ℕ, suc, ◌+◌, ◌*◌, ◌==◌, ◌<◌, ◌≤◌, Bool, true, false, cond, List, [], ◌∷◌, ◌++◌, map, flat_map, sum, length, take, drop, slice_index, Option}
use Rattle.std.specs.Prelude.{None, Some, vec_len}
use Rattle.std.specs.Borrow.{Bor}
use Rattle.std.specs.List.{AllByRecursion}
use Rattle.pgq_base.specs.declared.rows.Row.{Row}
use Rattle.pgq_base.specs.Instances.{TableRows, InstanceRows, rows_at}
use Rattle.row_eval.specs.declared.branch.Branch.{Branch}
use Rattle.row_eval.specs.declared.frame.Output.{Output}
use Rattle.row_eval.specs.declared.places.Places.{Places}
use Rattle.row_eval.specs.declared.stage.Stage.{Stage}
use Rattle.row_eval.specs.Access.{rows_among}
use Rattle.row_eval.specs.Slots.{Stack, lent_rows}
use Rattle.row_eval.specs.Stages.{found, found_on, visits, visits_on, output_row}
use Rattle.row_eval.specs.Stored.{row_values}

abbrev pub places_in : Places → List ℕ
places_in places = cond (vec_len places.merged == 0) places.group.now places.merged.items

-- the rows of a branch that are left
abbrev pub rows_left : InstanceRows → Branch → Stack → TableRows
rows_left instance branch stack = rows_among instance branch.access.now stack (drop branch.next (places_in branch.places))

-- the branch with the rows from another place on
abbrev pub resumed : Branch → ℕ → Branch
resumed branch next = record { access = branch.access; rows = branch.rows; places = branch.places; next = next; behind = branch.behind }

-- what is found with the rows that are left, and the rows that are read
abbrev pub found_from : InstanceRows → List Stage → Branch → Stack → List Stack
found_from instance stages branch stack = found_on (found instance (take branch.behind stages)) stack (rows_left instance branch stack)

abbrev pub visits_from : InstanceRows → List Stage → Branch → Stack → ℕ
visits_from instance stages branch stack = visits_on (visits instance (take branch.behind stages)) stack (rows_left instance branch stack)

-- The branches with the stacks that they stand on, the last one first: the first one's has a given height, and each next one's one row more.
abbrev pub standing : ℕ → List Branch → Stack → List (Branch × Stack)
standing height [] stack = []
standing height (branch ∷ branches) stack = standing (suc height) branches stack ++ (branch, take height stack) ∷ []

-- what is still found on branches
abbrev pub found_later : InstanceRows → List Stage → ℕ → List Branch → Stack → List Stack
found_later instance stages height branches stack = flat_map (λ (p : Branch × Stack). found_from instance stages p.0 p.1) (standing height branches stack)

abbrev pub visits_later : InstanceRows → List Stage → ℕ → List Branch → Stack → ℕ
visits_later instance stages height branches stack = sum (map (λ (p : Branch × Stack). visits_from instance stages p.0 p.1) (standing height branches stack))

-- more than the turns that are left: in each one either a row is read, and no more than one branch is added, or a branch is done
abbrev pub turns_later : InstanceRows → List Stage → ℕ → List Branch → Stack → ℕ
turns_later instance stages height branches stack = 2 * visits_later instance stages height branches stack + length branches

abbrev pub reached : Option Branch → ℕ
reached None = 0
reached (Some branch) = 1

-- what is found on a branch, if there is one
abbrev pub found_reached : InstanceRows → List Stage → Option Branch → Stack → List Stack
found_reached instance stages None stack = []
found_reached instance stages (Some branch) stack = found_from instance stages branch stack

abbrev pub visits_reached : InstanceRows → List Stage → Option Branch → Stack → ℕ
visits_reached instance stages None stack = 0
visits_reached instance stages (Some branch) stack = visits_from instance stages branch stack

-- what is left of a branch that was tried on a stack, up to a place and a further branch on top of a longer stack
abbrev pub found_tried : InstanceRows → List Stage → Branch → ℕ → Option Branch → Stack → Stack → List Stack
found_tried instance stages branch next None stack longer = []
found_tried instance stages branch next (Some further) stack longer = found_from instance stages further longer ++ found_from instance stages (resumed branch next) stack

abbrev pub visits_tried : InstanceRows → List Stage → Branch → ℕ → Option Branch → Stack → Stack → ℕ
visits_tried instance stages branch next None stack longer = 0
visits_tried instance stages branch next (Some further) stack longer = visits_from instance stages further longer + visits_from instance stages (resumed branch next) stack

-- the branch has the rows of its table, which is there, and places of some of them
pub record HasRows (tables : InstanceRows) (branch : Branch) : Type 0 where
  pub table : branch.access.now.table < length tables
  pub rows : lent_rows branch.rows.now ≡ rows_at tables branch.access.now.table
  pub places : (j : ℕ) → j < length (places_in branch.places) → slice_index (places_in branch.places) j < length (rows_at tables branch.access.now.table)

abbrev pub IsRight : InstanceRows → List Stage → Branch → Type 0
IsRight tables stages branch = HasRows tables branch × (branch.behind ≤ length stages)

abbrev pub AreRight : InstanceRows → List Stage → List Branch → Type 0
AreRight tables stages branches = AllByRecursion (IsRight tables stages) branches

abbrev pub IsRightReached : InstanceRows → List Stage → Option Branch → Type 0
IsRightReached tables stages None = Unit {0}
IsRightReached tables stages (Some branch) = IsRight tables stages branch

-- a row stays on top where a branch is reached
abbrev pub IsTopped : Option Branch → List (Bor Row) → List (Bor Row) → Type 0
IsTopped None old new = new ≡ old
IsTopped (Some branch) old new = (take (length old) new ≡ old) × (length new ≡ suc (length old))

-- The outputs of some stacks but for those that are left are put behind the rows that are there, and there are no more rows than the limit; or,
-- where not all are, there are more.
abbrev pub Advances : List Output → ℕ → List Row → List Row → List Stack → List Stack → Bool → Type 0
Advances outputs limit old new stacks left true =
    (row_values new ++ map (output_row outputs) left ≡ row_values old ++ map (output_row outputs) stacks) × (length old ≤ limit → length new ≤ limit)
Advances outputs limit old new stacks left false = limit < length old + length stacks
