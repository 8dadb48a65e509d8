-- The rows of a table's text, or its first fault.
use Rattle.std.specs.Prelude.{ℕ, suc, ◌==◌, ◌&&◌, ◌||◌, not, if◌then◌else◌, Bool, List, [], ◌∷◌, map, length, position, Option, Some, None, ok_or, slice_index_or, Result, Ok}
use Rattle.std.specs.Prelude.{Err, bytes_eq}
use Rattle.std.specs.List.{list_any}
use Rattle.std.specs.Str.{str_to_ascii_uppercase}
use Rattle.pgq_base.specs.declared.code.Code.TheVariants.{BadHeader, RecordWidth, BadField, NullField}
use Rattle.pgq_base.specs.declared.value.Value.{Value}
use Rattle.pgq_base.specs.declared.refusal.Refusal.{Refusal}
use Rattle.pgq_base.specs.Instances.{RowValues, TableRows}
use Rattle.graph_ast.specs.declared.catalog.Column.{Column}
use Rattle.graph_ast.specs.declared.catalog.Table.{Table}
use Rattle.graph_ast.specs.Fits.{is_null}
use Rattle.csv_tables.specs.declared.faults.TableFault.{TableFault}
use Rattle.csv_tables.specs.Fields.{field_value}
use Rattle.csv_tables.specs.Outcomes.{collected, refused_as}
use Rattle.csv_tables.specs.Records.{Field, file_records}

-- the column has the name that the bytes spell
abbrev pub is_named : Field → Column → Bool
is_named bytes column = bytes_eq column.name bytes

-- a field of the header names the column of just this name, or else that of this name in upper case
abbrev pub names : List Column → Column → Field → Bool
names columns column field =
    is_named field column || (not (list_any (is_named field) columns) && is_named (str_to_ascii_uppercase field) column)

abbrev pub bad_header : TableFault
bad_header = record { code = BadHeader; row = 0; column = 0 }

-- for each column the place of the field that names it. There are as many fields as columns, so each column is named once and nothing
-- else is named
abbrev pub header_places : List Column → List Field → Result (List ℕ) TableFault
header_places columns header =
    if length header == length columns
    then collected (map (λ column. ok_or (position (names columns column) header) bad_header) columns)
    else Err bad_header

-- a value that a column takes, at its row and at the number of the column
abbrev pub taken : Column → ℕ → ℕ → Option Value → Result Value TableFault
taken column row number None = Err (record { code = BadField; row = row; column = number })
taken column row number (Some value) =
    if column.not_null && is_null value then Err (record { code = NullField; row = row; column = number }) else Ok value

-- the values of a record in the order of the columns, each from the field at the column's place
abbrev pub cells : ℕ → ℕ → List Column → List ℕ → List Field → List (Result Value TableFault)
cells row number [] places record_fields = []
cells row number (column ∷ columns) [] record_fields = []
cells row number (column ∷ columns) (place ∷ places) record_fields =
    taken column row number (field_value column.kind (slice_index_or record_fields place []))
    ∷ cells row (suc number) columns places record_fields

-- a record that is as wide as the header gives a row, or a fault at its first bad column
abbrev pub record_row : List Column → List ℕ → ℕ → List Field → Result RowValues TableFault
record_row columns places row record_fields =
    if length record_fields == length columns then collected (cells row 1 columns places record_fields)
    else Err (record { code = RecordWidth; row = row; column = 0 })

-- the rows of the records, which are counted from `row`
abbrev pub record_rows : List Column → List ℕ → ℕ → List (List Field) → List (Result RowValues TableFault)
record_rows columns places row [] = []
record_rows columns places row (record_fields ∷ more) =
    record_row columns places row record_fields ∷ record_rows columns places (suc row) more

abbrev pub rows_under : List Column → Result (List ℕ) TableFault → List (List Field) → Result TableRows TableFault
rows_under columns (Err fault) body = Err fault
rows_under columns (Ok places) body = collected (record_rows columns places 1 body)

-- the header, and the rows under it
abbrev pub rows_of_records : List Column → List (List Field) → Result TableRows TableFault
rows_of_records columns [] = Err bad_header
rows_of_records columns (header ∷ body) = rows_under columns (header_places columns header) body

-- the rows of a table's text, or the refusal that tells its first fault
abbrev pub table_rows : List ℕ → Table → Result TableRows Refusal
table_rows bytes table = refused_as table.name (rows_of_records table.columns (file_records bytes))
