-- What a call on tables answers: what is due, or the refusal that tells the first fault, or that memory ran out.
use Rattle.std.specs.Prelude.{◌≡◌, ℕ, map, List, [], ◌∷◌, Result, Ok, Err}
use Rattle.std.specs.Result.{result_map_both}
use Rattle.pgq_base.specs.declared.rows.Row.{Row}
use Rattle.pgq_base.specs.declared.rows.Rows.{Rows}
use Rattle.pgq_base.specs.Instances.{RowValues, TableRows}
use Rattle.pgq_base.specs.declared.refusal.Role.TheVariants.{Table}
use Rattle.pgq_base.specs.declared.refusal.Detail.TheVariants.{At}
use Rattle.pgq_base.specs.declared.refusal.Refusal.{Refusal}
use Rattle.pgq_base.specs.declared.refusal.Stop.{Stop}
use Rattle.pgq_base.specs.declared.refusal.Stop.TheVariants.{Refused, NoMemory}
use Rattle.csv_tables.specs.declared.faults.TableFault.{TableFault}

-- the values of a row, and those of the rows of a table
abbrev pub values_of : Row → RowValues
values_of row = row.values

abbrev pub rows_of : Rows → TableRows
rows_of table = map values_of table.rows

-- the refusal of a table with a fault. It has no place in a text
abbrev pub refusal_of : List ℕ → TableFault → Refusal
refusal_of table fault = record {
  role = Table;
  span = record { from = 0; to = 0 };
  code = fault.code;
  detail = At table fault.row fault.column;
}

abbrev pub refused_as : {A : Type 0} → List ℕ → Result A TableFault → Result A Refusal
refused_as table (Ok x) = Ok x
refused_as table (Err fault) = Err (refusal_of table fault)

-- an answer whose value is seen by `view`
abbrev pub seen : {A B E : Type 0} → (A → B) → Result A E → Result B E
seen view r = result_map_both view (λ e. e) r

-- this refusal, unless memory ran out
abbrev pub IsRefusal : Refusal → Stop Refusal → Type 0
IsRefusal due (Refused refusal) = refusal ≡ due
IsRefusal due NoMemory = Unit {0}

-- x and then the values, where there are values
abbrev pub put_before : {A E : Type 0} → A → Result (List A) E → Result (List A) E
put_before x (Ok xs) = Ok (x ∷ xs)
put_before x (Err e) = Err e

-- all of the values, or the first of the errors
abbrev pub collected : {A E : Type 0} → List (Result A E) → Result (List A) E
collected [] = Ok []
collected (Err e ∷ rest) = Err e
collected (Ok x ∷ rest) = put_before x (collected rest)
