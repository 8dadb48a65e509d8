-- Words of private functions, which no public contract cites.
use Rattle.std.specs.Prelude.{◌≡◌, ℕ, ◌+◌, ◌++◌, nat_lt, if◌then◌else◌, Bool, true, false, List, [], ◌∷◌, length, Option, Some, None}
use Rattle.csv.specs.Machine.{ends_at_end}
use Rattle.csv.specs.Reading.{Ready, default_config, reader_config, reader_state, reader_trim, records_from, source_of}
use Rattle.csv.specs.Writing.{default_writer, fields_written, has_written, text_written, writer_setup}
use Rattle.csv.specs.declared.reader.Reader.{Reader}
use Rattle.csv.specs.declared.reader.Trim.TheVariants as trim
use Rattle.csv.specs.declared.writer.Writer.{Writer}
use Rattle.pgq_base.specs.declared.value.Value.{Value}
use Rattle.pgq_base.specs.Instances.{RowValues, TableRows, InstanceRows, rows_at}
use Rattle.graph_ast.specs.declared.catalog.Reference.{Reference}
use Rattle.csv_tables.specs.declared.checking.TargetKeys.{TargetKeys}
use Rattle.csv_tables.specs.declared.faults.TableFault.{TableFault}
use Rattle.csv_tables.specs.Constraints.{has_values}
use Rattle.csv_tables.specs.KeyHashes.{holds}
use Rattle.csv_tables.specs.Records.{Field}

-- the reader stands between two records and has these ones left. `remaining` tells what the source underneath has left
pub record HasLeft {R : Type 0} (remaining : R → Option (List ℕ)) (reader : Reader R) (left : List (List Field)) : Type 0 where
  pub plain : reader_trim reader ≡ trim.None
  pub ready : Ready reader
  pub config : reader_config reader ≡ default_config
  pub between : ends_at_end (reader_state reader) ≡ false
  pub bytes : List ℕ
  pub source : source_of remaining reader ≡ Some bytes
  pub records : left ≡ records_from default_config (length bytes + 1) (reader_state reader) bytes

-- the first of the records that were left was taken, or there was none
abbrev pub Took : {R : Type 0} → (R → Option (List ℕ)) → Reader R → List (List Field) → Bool → List Field → Type 0
Took remaining reader left false fields = left ≡ []
Took remaining reader left true fields = (rest : List (List Field)) × (left ≡ fields ∷ rest) × HasLeft remaining reader rest

-- the writer has the default settings, stands between two records and has written this text. `contents` tells what the sink
-- underneath holds
pub record HasWritten {W : Type 0} (contents : W → Option (List ℕ)) (writer : Writer W) (text : List ℕ) : Type 0 where
  pub setup : writer_setup writer ≡ default_writer
  pub ended : fields_written writer ≡ 0
  pub clean : has_written writer ≡ false
  pub told : text_written contents writer ≡ Some text

-- the number of the first row that breaks a constraint
abbrev pub first_break : (TableRows → RowValues → Bool) → TableRows → TableRows → Option ℕ
first_break breaks earlier [] = None
first_break breaks earlier (row ∷ rows) =
    if breaks earlier row then Some (length earlier + 1) else first_break breaks (earlier ++ row ∷ []) rows

-- the one of the two faults that stands at the earlier row, and of two at one row the first
abbrev pub earlier_of : Option TableFault → Option TableFault → Option TableFault
earlier_of None other = other
earlier_of (Some fault) None = Some fault
earlier_of (Some fault) (Some other) = if nat_lt other.row fault.row then Some other else Some fault

-- the set has the values of the table's rows in the columns, and no others
abbrev pub AreKeysIn : InstanceRows → TargetKeys → Type 0
AreKeysIn instance targets = (values : List Value) → holds targets.keys values ≡ has_values targets.columns.now (rows_at instance targets.table) values

-- the table and the columns are those that the reference has for targets
pub record IsFor (reference : Reference) (targets : TargetKeys) : Type 0 where
  pub table : targets.table ≡ reference.table
  pub columns : targets.columns.now ≡ reference.targets
