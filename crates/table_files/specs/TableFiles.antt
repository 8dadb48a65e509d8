-- The instance that the texts of some tables give, or the first refusal. The limit and the order of refusals are this project's own.
use Rattle.std.specs.Prelude.{◌≡◌, ℕ, ◌+◌, ◌≤◌, nat_le, if◌then◌else◌, List, [], ◌∷◌, map, sum_by, length, slice_set, Option, None, Some, Result, Ok, Err}
use Rattle.pgq_base.specs.declared.code.Code.TheVariants.{DataTooLarge}
use Rattle.pgq_base.specs.declared.refusal.Refusal.{Refusal}
use Rattle.multisets.specs.Bags.{IsIn}
use Rattle.pgq_base.specs.Instances.{TableRows, InstanceRows, rows_at}
use Rattle.graph_ast.specs.declared.catalog.Catalog.{Catalog}
use Rattle.graph_ast.specs.Fits.{without_rows}
use Rattle.graph_ast.specs.Lookups.{table_at}
use Rattle.csv_tables.specs.Constraints.{instance_refusal, instance_rows}
use Rattle.csv_tables.specs.Outcomes.{refusal_of}
use Rattle.csv_tables.specs.Reading.{table_rows}
use Rattle.table_files.specs.declared.files.TableText.{TableText}
use Rattle.table_files.specs.declared.files.TablesRead.{TablesRead}

-- the rows of the tables after some files were read, by place of the table, and the number of bytes that the files had
pub record RowsRead : Type 0 where
  pub tables : InstanceRows
  pub bytes : ℕ

abbrev pub rows_read : InstanceRows → ℕ → RowsRead
rows_read tables bytes = record { tables = tables; bytes = bytes }

abbrev pub read_of : TablesRead → RowsRead
read_of read = rows_read (instance_rows read.instance) read.bytes

abbrev pub none_read : Catalog → RowsRead
none_read catalog = rows_read (without_rows catalog) 0

-- the most bytes that all files may have together
abbrev pub most_bytes : ℕ
most_bytes = 67108864

-- the refusal at the table whose file passes it
abbrev pub too_large : List ℕ → Refusal
too_large table = refusal_of table (record { code = DataTooLarge; row = 0; column = 0 })

-- the rows of one more file, put at the place of its table
abbrev pub added : RowsRead → ℕ → ℕ → Result TableRows Refusal → Result RowsRead Refusal
added read place count (Err refusal) = Err refusal
added read place count (Ok rows) = Ok (rows_read (slice_set read.tables place rows) (read.bytes + count))

-- one more file: its size is looked at first, and then its content
abbrev pub file_read : Catalog → RowsRead → ℕ → List ℕ → Result RowsRead Refusal
file_read catalog read place bytes =
    if nat_le (read.bytes + length bytes) most_bytes then added read place (length bytes) (table_rows bytes (table_at catalog place))
    else Err (too_large (table_at catalog place).name)

abbrev pub and_then : {A B E : Type 0} → Result A E → (A → Result B E) → Result B E
and_then (Ok x) step = step x
and_then (Err e) step = Err e

-- the files in their order, or the first of their refusals
abbrev pub files_read : Catalog → RowsRead → List TableText → Result RowsRead Refusal
files_read catalog read [] = Ok read
files_read catalog read (text ∷ texts) = and_then (file_read catalog read text.table text.bytes) (λ more. files_read catalog more texts)

abbrev pub unless : {A : Type 0} → Option Refusal → A → Result A Refusal
unless None x = Ok x
unless (Some refusal) x = Err refusal

-- the instance, unless a row breaks a key or a reference
abbrev pub instance_checked : Catalog → InstanceRows → Result InstanceRows Refusal
instance_checked catalog instance = unless (instance_refusal catalog instance) instance

-- what the texts are due
abbrev pub instance_due : Catalog → List TableText → Result InstanceRows Refusal
instance_due catalog texts = and_then (files_read catalog (none_read catalog) texts) (λ read. instance_checked catalog read.tables)

-- the tables of the texts
abbrev pub tables_in : List TableText → List ℕ
tables_in texts = map (λ text. text.table) texts

abbrev pub bytes_in : List TableText → ℕ
bytes_in texts = sum_by (λ text. length text.bytes) texts

-- the instance has the rows of each text at the place of its table, and no rows at another place
pub record IsGivenBy (catalog : Catalog) (texts : List TableText) (instance : InstanceRows) : Type 0 where
  pub tables : length instance ≡ length catalog.tables
  pub given : (text : TableText) → IsIn text texts → table_rows text.bytes (table_at catalog text.table) ≡ Ok (rows_at instance text.table)
  pub others : (place : ℕ) → (IsIn place (tables_in texts) → ⊥) → rows_at instance place ≡ []
  pub few : bytes_in texts ≤ most_bytes
