-- The first row of an instance that breaks a key or a reference.
use Rattle.std.specs.Prelude.{◌<◌, ◌^◌, All, Result, Ok, Err, ⊤, ℕ, suc, ◌+◌, ◌&&◌, not, Bool, List, [], ◌∷◌, ◌++◌, map, length, find, slice_index, Option, Some, None}
use Rattle.std.specs.List.{list_any}
use Rattle.pgq_base.specs.declared.code.Code.{Code}
use Rattle.pgq_base.specs.declared.code.Code.TheVariants.{RepeatedKey, BrokenReference}
use Rattle.pgq_base.specs.declared.refusal.Refusal.{Refusal}
use Rattle.pgq_base.specs.declared.rows.Instance.{Instance}
use Rattle.pgq_base.specs.declared.value.Value.{Value}
use Rattle.pgq_base.specs.Instances.{RowValues, TableRows, InstanceRows, values_at, rows_at, same_values}
use Rattle.graph_ast.specs.declared.catalog.Catalog.{Catalog}
use Rattle.graph_ast.specs.declared.catalog.Table.{Table}
use Rattle.graph_ast.specs.declared.catalog.Key.{Key}
use Rattle.graph_ast.specs.declared.catalog.Reference.{Reference}
use Rattle.graph_ast.specs.Fits.{has_null}
use Rattle.csv_tables.specs.declared.faults.TableFault.{TableFault}
use Rattle.csv_tables.specs.Outcomes.{refusal_of, rows_of}

-- the rows of an instance
abbrev pub instance_rows : Instance → InstanceRows
instance_rows instance = map rows_of instance.tables

-- whether one of the rows has these values in the columns
abbrev pub has_values : List ℕ → TableRows → List Value → Bool
has_values columns rows values = list_any (λ row. same_values values (values_at columns row)) rows

-- a constraint of a table: whether a row breaks it behind the rows before it, and the code and the columns that the fault names
pub record Constraint : Type 0 where
  pub code : Code
  pub columns : List ℕ
  pub breaks : TableRows → RowValues → Bool

-- whether a row has the values of an earlier row in the columns, none of them Null
abbrev pub repeats : List ℕ → TableRows → RowValues → Bool
repeats columns earlier row = not (has_null (values_at columns row)) && has_values columns earlier (values_at columns row)

-- whether a row has a reference without a Null that meets none of the target's rows
abbrev pub dangles : List ℕ → List ℕ → TableRows → TableRows → RowValues → Bool
dangles columns targets target earlier row =
    not (has_null (values_at columns row)) && not (has_values targets target (values_at columns row))

abbrev pub key_constraint : Key → Constraint
key_constraint key = record { code = RepeatedKey; columns = key.columns; breaks = repeats key.columns }

abbrev pub reference_constraint : InstanceRows → Reference → Constraint
reference_constraint instance reference = record {
  code = BrokenReference;
  columns = reference.columns;
  breaks = dangles reference.columns reference.targets (rows_at instance reference.table);
}

-- the constraints of a table, keys before references, in the order in which they are declared
abbrev pub constraints_of : InstanceRows → Table → List Constraint
constraints_of instance table = map key_constraint table.keys ++ map (reference_constraint instance) table.references

-- a fault of a constraint stands at its first column
abbrev pub fault_of : ℕ → Constraint → TableFault
fault_of row broken = record { code = broken.code; row = row; column = slice_index broken.columns 0 + 1 }

abbrev pub row_or : ℕ → Option Constraint → Option TableFault → Option TableFault
row_or number (Some broken) later = Some (fault_of number broken)
row_or number None later = later

-- the fault of the first row that breaks a constraint, which is the first one that it breaks
abbrev pub rows_fault : List Constraint → TableRows → TableRows → Option TableFault
rows_fault constraints earlier [] = None
rows_fault constraints earlier (row ∷ rows) =
    row_or (length earlier + 1) (find (λ c. c.breaks earlier row) constraints) (rows_fault constraints (earlier ++ row ∷ []) rows)

abbrev pub table_or : Table → Option TableFault → Option Refusal → Option Refusal
table_or table (Some fault) later = Some (refusal_of table.name fault)
table_or table None later = later

-- the refusal of the first table that has a fault. The first of the tables has its rows at `place`
abbrev pub tables_refusal : InstanceRows → ℕ → List Table → Option Refusal
tables_refusal instance place [] = None
tables_refusal instance place (table ∷ tables) =
    table_or table (rows_fault (constraints_of instance table) [] (rows_at instance place)) (tables_refusal instance (suc place) tables)

abbrev pub instance_refusal : Catalog → InstanceRows → Option Refusal
instance_refusal catalog instance = tables_refusal instance 0 catalog.tables

-- the first column of each key and each reference has a number of 32 bits, counted from 1, as in a valid catalog
abbrev pub IsNumbered : List ℕ → Type 0
IsNumbered columns = slice_index columns 0 + 1 < 2 ^ 32

pub record HasNumbers (table : Table) : Type 0 where
  pub keys : All (λ key. IsNumbered key.columns) table.keys
  pub references : All (λ reference. IsNumbered reference.columns) table.references

-- what the check answers where this refusal is due, or none
abbrev pub verdict : Option Refusal → Result ⊤ Refusal
verdict None = Ok tt
verdict (Some refusal) = Err refusal
