-- The rows that are read are rows of their columns.
use Rattle.std.proofs.Common.{◌≡◌, ℕ, suc, inl, inr, Bool, true, false, cond, List, [], ◌∷◌, length, get_or, Option, Some, None, Result, Ok, Err, refl, sym, ap, subst, ◌∙◌}
use Rattle.std.proofs.Common.{arith, bytes_eq}
use Rattle.std.specs.Prelude.{◌&&◌, ◌==◌, option_and_then}
use Rattle.multisets.specs.Bags.{IsIn}
use Rattle.pgq_base.specs.declared.code.Code.TheVariants.{RecordWidth}
use Rattle.pgq_base.specs.declared.value.Value.{Value}
use Rattle.pgq_base.specs.declared.value.Value.TheVariants.{Null}
use Rattle.pgq_base.specs.Instances.{RowValues, TableRows}
use Rattle.graph_ast.specs.declared.catalog.Column.{Column}
use Rattle.graph_ast.specs.declared.catalog.ColumnType.{ColumnType}
use Rattle.graph_ast.specs.declared.catalog.Table.{Table}
use Rattle.graph_ast.specs.Fits.{is_null, IsRowOf, IsValueOf}
use Rattle.csv_tables.specs.declared.faults.TableFault.{TableFault}
use Rattle.csv_tables.specs.Fields.{field_value, if_within, null_field, written}
use Rattle.csv_tables.specs.Outcomes.{collected, put_before, refused_as}
use Rattle.csv_tables.specs.Reading.{cells, header_places, record_row, record_rows, rows_of_records, rows_under, table_rows, taken}
use Rattle.csv_tables.specs.Records.{Field, file_records}
use Rattle.csv_tables.specs.Within.{is_within}
use Rattle.csv_tables.proofs.ReadingLemmas.{header_length}
use Rattle.csv_tables.proofs.RecordLemmas.{some_same}
use Rattle.csv_tables.proofs.WithinLemmas.{within_tells}

of_within : (kind : ColumnType) (o : Option Value) (v : Value) → option_and_then (if_within kind) o ≡ Some v → is_within kind v ≡ true
of_within kind None v e = cc
of_within kind (Some w) v e = by (is_within kind w) refl e
  where
    by : (b : Bool) → is_within kind w ≡ b → cond b (Some w) None ≡ Some v → is_within kind v ≡ true
    by true a e = subst (λ x. is_within kind x ≡ true) (some_same e) a
    by false a e = cc

null_within : (kind : ColumnType) → is_within kind Null ≡ true
null_within kind = refl

field_within : (kind : ColumnType) (field : Field) (v : Value) → field_value kind field ≡ Some v → is_within kind v ≡ true
field_within kind field v = by (bytes_eq field null_field)
  where
    by : (b : Bool) → cond b (Some Null) (option_and_then (if_within kind) (written kind field)) ≡ Some v → is_within kind v ≡ true
    by true e = subst (λ x. is_within kind x ≡ true) (some_same e) (null_within kind)
    by false e = of_within kind (written kind field) v e

kept_not_null : (a b : Bool) → (a && b) ≡ false → a ≡ true → b ≡ false
kept_not_null true b h e = h
kept_not_null false b h e = cc

taken_typed : (column : Column) (row n : ℕ) (field : Field) (v : Value) → taken column row n (field_value column.kind field) ≡ Ok v → IsValueOf column v
taken_typed column row n field v = by (field_value column.kind field) refl
  where
    by : (o : Option Value) → field_value column.kind field ≡ o → taken column row n o ≡ Ok v → IsValueOf column v
    by None f e = cc
    by (Some w) f e = go (column.not_null && is_null w) refl e
      where
        go : (b : Bool) → (column.not_null && is_null w) ≡ b → taken column row n (Some w) ≡ Ok v → IsValueOf column v
        go true t e = cc (rw t at e)
        go false t e =
            let same : w ≡ v = cc (rw t at e) in
            let within = (within_tells column.kind w).0 (field_within column.kind field w f) in
            subst (IsValueOf column) same (record { within = within; not_null = λ h. kept_not_null column.not_null (is_null w) t h })

-- the first of the results is a value, and so are the others
abbrev Parts : {A E : Type 0} → Result A E → List (Result A E) → List A → Type 0
Parts {A} {E} first rest xs = (x : A) × (ys : List A) × (first ≡ Ok x) × (collected rest ≡ Ok ys) × (xs ≡ x ∷ ys)

first_value : {A E : Type 0} (first : Result A E) (rest : List (Result A E)) (xs : List A) → collected (first ∷ rest) ≡ Ok xs → Parts first rest xs
first_value (Err e) rest xs h = cc
first_value {A} {E} (Ok x) rest xs h = by (collected rest) refl h
  where
    first : Result A E
    first = Ok x

    by : (r : Result (List A) E) → collected rest ≡ r → put_before x r ≡ Ok xs → Parts first rest xs
    by (Ok ys) e h = let same : xs ≡ x ∷ ys = cc in (x, ys, refl, e, same)
    by (Err f) e h = cc

cells_typed : (row n : ℕ) (columns : List Column) (places : List ℕ) (fields : List Field) (values : RowValues) → length places ≡ length columns
    → collected (cells row n columns places fields) ≡ Ok values → IsRowOf columns values
cells_typed row n [] places fields values size e = let none : values ≡ [] = cc in subst (IsRowOf []) (sym none) tt
cells_typed row n (column ∷ columns) [] fields values size e = absurd (omega arith)
cells_typed row n (column ∷ columns) (place ∷ places) fields values size e =
    let (v, more, here, there, same) = first_value _ _ values e in
    let typed : IsRowOf (column ∷ columns) (v ∷ more) =
    (taken_typed column row n (get_or fields place []) v here, cells_typed row (suc n) columns places fields more (omega arith) there) in
    subst (IsRowOf (column ∷ columns)) (sym same) typed

row_typed : (row : ℕ) (columns : List Column) (places : List ℕ) (fields : List Field) (values : RowValues) → length places ≡ length columns
    → record_row columns places row fields ≡ Ok values → IsRowOf columns values
row_typed row columns places fields values size = by (length fields == length columns)
  where
    by : (b : Bool) → cond b (collected (cells row 1 columns places fields)) (Err (record { code = RecordWidth; row = row; column = 0 })) ≡ Ok values → IsRowOf columns values
    by true e = cells_typed row 1 columns places fields values size e
    by false e = cc

-- each row of a list is a row of the columns
abbrev Typed : List Column → TableRows → Type 0
Typed columns rows = (row : RowValues) → IsIn row rows → IsRowOf columns row

no_rows : (columns : List Column) → Typed columns []
no_rows columns row h = absurd h

one_more_row : (columns : List Column) (first : RowValues) (rows : TableRows) → IsRowOf columns first → Typed columns rows → Typed columns (first ∷ rows)
one_more_row columns first rows here there row (inl e) = subst (IsRowOf columns) e here
one_more_row columns first rows here there row (inr h) = there row h

rows_typed : (n : ℕ) (columns : List Column) (places : List ℕ) (body : List (List Field)) (rows : TableRows) → length places ≡ length columns
    → collected (record_rows columns places n body) ≡ Ok rows → Typed columns rows
rows_typed n columns places [] rows size e = let none : rows ≡ [] = cc in subst (Typed columns) (sym none) (no_rows columns)
rows_typed n columns places (fields ∷ body) rows size e =
    let (row, more, here, there, same) = first_value _ _ rows e in
    subst (Typed columns) (sym same)
    (one_more_row columns row more (row_typed n columns places fields row size here) (rows_typed (suc n) columns places body more size there))

under_typed : (columns : List Column) (header : List Field) (body : List (List Field)) (rows : TableRows) → rows_under columns (header_places columns header) body ≡ Ok rows
    → Typed columns rows
under_typed columns header body rows = by (header_places columns header) refl
  where
    by : (r : Result (List ℕ) TableFault) → header_places columns header ≡ r → rows_under columns r body ≡ Ok rows → Typed columns rows
    by (Ok places) h e = rows_typed 1 columns places body rows (header_length columns header places h) e
    by (Err fault) h e = cc

records_typed : (columns : List Column) (records : List (List Field)) (rows : TableRows) → rows_of_records columns records ≡ Ok rows → Typed columns rows
records_typed columns [] rows e = cc
records_typed columns (header ∷ body) rows e = under_typed columns header body rows e

pub table_typed : (bytes : List ℕ) (table : Table) (rows : TableRows) → table_rows bytes table ≡ Ok rows → Typed table.columns rows
table_typed bytes table rows = by (rows_of_records table.columns (file_records bytes)) refl
  where
    by : (r : Result TableRows TableFault) → rows_of_records table.columns (file_records bytes) ≡ r → refused_as table.name r ≡ Ok rows → Typed table.columns rows
    by (Ok found) h e = let same : found ≡ rows = cc in records_typed table.columns (file_records bytes) rows (h ∙ ap Ok same)
    by (Err fault) h e = cc
