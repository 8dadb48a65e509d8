-- What stages of an evaluation find: the stacks of rows that pass each of them, and how many rows are read on the way. Of a list of stages the last
-- one is done first.
use Rattle.std.specs.Prelude.{◌≡◌, ℕ, ◌+◌, ◌<◌, ◌≤◌, Bool, true, false, cond, List, [], ◌∷◌, ◌++◌, map, flat_map, sum, length}
use Rattle.std.specs.List.{list_all}
use Rattle.pgq_base.specs.Instances.{RowValues, TableRows, InstanceRows}
use Rattle.expr_tree.specs.Leaves.{joined}
use Rattle.expr_tree.specs.Meaning.{value_in}
use Rattle.sql_algebra.specs.Meaning.{has_none}
use Rattle.row_eval.specs.declared.frame.Condition.{Condition}
use Rattle.row_eval.specs.declared.frame.Output.{Output}
use Rattle.row_eval.specs.declared.stage.Stage.{Stage, Stage-F, fold-Stage}
use Rattle.row_eval.specs.declared.access.Access.{Access}
use Rattle.row_eval.specs.Access.{rows_given}
use Rattle.pgq_base.specs.declared.rows.Row.{Row}
use Rattle.row_eval.specs.Stored.{row_values}
use Rattle.row_eval.specs.Slots.{Stack, is_kept, slot_value}

abbrev pub all_kept : List Condition → Stack → Bool
all_kept conditions stack = list_all (λ (c : Condition). is_kept stack c.expr) conditions

-- what is found with each of some rows on top of the stack, and the rows that are read
abbrev pub found_on : (Stack → List Stack) → Stack → TableRows → List Stack
found_on rest stack rows = flat_map (λ row. rest (stack ++ row ∷ [])) rows

abbrev pub visits_on : (Stack → ℕ) → Stack → TableRows → ℕ
visits_on rest stack rows = sum (map (λ row. 1 + rest (stack ++ row ∷ [])) rows)

-- what the stages make of an end, the first of the list the last one that is done
abbrev pub in_turn : {X : Type 0} → List (X → X) → X → X
in_turn [] end = end
in_turn (stage ∷ stages) end = in_turn stages (stage end)

-- the stack is found
abbrev pub itself : Stack → List Stack
itself stack = stack ∷ []

abbrev pub no_visit : Stack → ℕ
no_visit stack = 0

abbrev pub found_step : InstanceRows → Stage-F ((Stack → List Stack) → Stack → List Stack) → (Stack → List Stack) → Stack → List Stack
found_step instance (Stage-F.Keep conditions) rest stack = cond (all_kept conditions stack) (rest stack) []
found_step instance (Stage-F.Join access) rest stack = found_on rest stack (rows_given instance access stack)
found_step instance (Stage-F.Absent inner) rest stack = cond (has_none (in_turn inner itself stack)) (rest stack) []

-- what is found by a stage before others, of which is given what they find
abbrev pub found_by : InstanceRows → Stage → (Stack → List Stack) → Stack → List Stack
found_by instance = fold-Stage ((Stack → List Stack) → Stack → List Stack) (found_step instance)

-- the stacks that pass
abbrev pub found : InstanceRows → List Stage → Stack → List Stack
found instance stages = in_turn (map (found_by instance) stages) itself

abbrev pub visits_step : InstanceRows → Stage-F ((Stack → ℕ) → Stack → ℕ) → (Stack → ℕ) → Stack → ℕ
visits_step instance (Stage-F.Keep conditions) rest stack = cond (all_kept conditions stack) (rest stack) 0
visits_step instance (Stage-F.Join access) rest stack = visits_on rest stack (rows_given instance access stack)
visits_step instance (Stage-F.Absent inner) rest stack = in_turn inner no_visit stack + rest stack

abbrev pub visits_by : InstanceRows → Stage → (Stack → ℕ) → Stack → ℕ
visits_by instance = fold-Stage ((Stack → ℕ) → Stack → ℕ) (visits_step instance)

-- no more rows than these are read
abbrev pub visits : InstanceRows → List Stage → Stack → ℕ
visits instance stages = in_turn (map (visits_by instance) stages) no_visit

abbrev pub accesses_step : Stage-F (List Access) → List Access
accesses_step (Stage-F.Keep conditions) = []
accesses_step (Stage-F.Join access) = access ∷ []
accesses_step (Stage-F.Absent inner) = joined inner

-- the accesses of a stage
abbrev pub accesses_of : Stage → List Access
accesses_of = fold-Stage (List Access) accesses_step

-- the accesses of stages
abbrev pub accesses : List Stage → List Access
accesses stages = joined (map accesses_of stages)

-- the row of the outputs' values
abbrev pub output_row : List Output → Stack → RowValues
output_row outputs stack = map (λ (o : Output). value_in (slot_value stack) o.expr) outputs

-- The outputs of the stacks are put behind the rows that are there, all of them, and there are no more rows than the limit; or,
-- where not all are, there are more.
abbrev pub Collects : List Output → ℕ → List Row → List Row → List Stack → Bool → Type 0
Collects outputs limit old new stacks true =
    (row_values new ≡ row_values old ++ map (output_row outputs) stacks) × (length old ≤ limit → length new ≤ limit)
Collects outputs limit old new stacks false = limit < length old + length stacks
