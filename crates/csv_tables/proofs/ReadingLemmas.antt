-- The values of a record.
use Rattle.std.proofs.Common.{◌≡◌, ℕ, zero, suc, ◌+◌, ◌<◌, List, [], ◌∷◌, drop, length, get_or, Result, refl, sym, ap, ◌∙◌, arith}
use Rattle.std.proofs.Common.{Ok, Err, ◌++◌, map, add-one, subst}
use Rattle.std.proofs.Common.{Bool, true, false}
use Rattle.std.specs.Prelude.{IsErrAnd, ok_or, position, ◌==◌, if◌then◌else◌}
use Rattle.std.proofs.lemmas.List.{append-nil, map-append, length-map}
use Rattle.pgq_base.specs.Instances.{TableRows}
use Rattle.pgq_base.specs.declared.rows.Row.{Row}
use Rattle.graph_ast.specs.declared.catalog.Column.{Column}
use Rattle.csv_tables.specs.Fields.{field_value}
use Rattle.csv_tables.specs.declared.faults.TableFault.{TableFault}
use Rattle.pgq_base.specs.declared.refusal.Stop.{Stop}
use Rattle.pgq_base.specs.declared.refusal.Stop.TheVariants as stop
use Rattle.csv_tables.specs.Outcomes.{collected, seen, values_of}
use Rattle.pgq_base.specs.Answers.{Gives}
use Rattle.csv_tables.specs.Reading.{bad_header, cells, header_places, names, record_row, record_rows, taken}
use Rattle.csv_tables.proofs.CollectLemmas.{ahead, length_collected, next_error, next_value}

pub cells_step : (row n : ℕ) (fields : List (List ℕ)) (columns : List Column) (places : List ℕ) (i : ℕ) (column : Column)
    → i < length columns → i < length places → column ≡ get_or columns i column
    → cells row n (drop i columns) (drop i places) fields
    ≡ taken column row n (field_value column.kind (get_or fields (get_or places i 0) [])) ∷ cells row (suc n) (drop (suc i) columns) (drop (suc i) places) fields
cells_step row n fields [] places i column h k e = absurd (omega arith)
cells_step row n fields (c ∷ columns) [] i column h k e = absurd (omega arith)
cells_step row n fields (c ∷ columns) (p ∷ places) zero column h k e =
    ap (λ (d : Column). taken d row n (field_value d.kind (get_or fields p [])) ∷ cells row (suc n) columns places fields) (sym e)
cells_step row n fields (c ∷ columns) (p ∷ places) (suc i) column h k e = cells_step row n fields columns places i column (omega arith) (omega arith) e

pub no_cells : (row n : ℕ) (fields : List (List ℕ)) (columns : List Column) (places : List ℕ) → length columns ≡ 0 → cells row n columns places fields ≡ []
no_cells row n fields [] places h = refl
no_cells row n fields (c ∷ columns) places h = absurd (omega arith)

module _ (columns : List Column) (places : List ℕ) (all : Result TableRows TableFault) where
  -- no record is left
  pub all_read : (n : ℕ) (rows : List Row) (rest : List (List (List ℕ))) → all ≡ ahead (map values_of rows) (collected (record_rows columns places n rest)) → rest ≡ []
      → all ≡ Ok (map values_of rows)
  all_read n rows rest h e = h ∙ (ap (λ more. ahead (map values_of rows) (collected (record_rows columns places n more))) e ∙ ap Ok (append-nil (map values_of rows)))

  -- the next record is a row
  pub row_read : (n : ℕ) (rows : List Row) (row : Row) (fields : List (List ℕ)) (rest more : List (List (List ℕ)))
      → all ≡ ahead (map values_of rows) (collected (record_rows columns places n rest)) → rest ≡ fields ∷ more → record_row columns places n fields ≡ Ok (values_of row)
      → all ≡ ahead (map values_of (rows ++ row ∷ [])) (collected (record_rows columns places (n + 1) more))
  row_read n rows row fields rest more h e due =
      let there = h ∙ ap (λ left. ahead (map values_of rows) (collected (record_rows columns places n left))) e in
      rw (map-append values_of rows (row ∷ []), add-one)
      (next_value all (map values_of rows) (record_row columns places n fields) (values_of row) (record_rows columns places (suc n) more) due there)

  -- or it has a fault
  pub bad_row : (n : ℕ) (rows : List Row) (fault : TableFault) (fields : List (List ℕ)) (rest more : List (List (List ℕ)))
      → all ≡ ahead (map values_of rows) (collected (record_rows columns places n rest)) → rest ≡ fields ∷ more → record_row columns places n fields ≡ Err fault
      → all ≡ Err fault
  bad_row n rows fault fields rest more h e due =
      let there = h ∙ ap (λ left. ahead (map values_of rows) (collected (record_rows columns places n left))) e in
      next_error all (map values_of rows) (record_row columns places n fields) fault (record_rows columns places (suc n) more) due there

-- what a step answers where it has no value is handed on
pub handed_on : {B D : Type 0} (due : Result B TableFault) (later : Result D TableFault) (e : Stop TableFault) → Gives {A = B} due (Err e)
    → ((fault : TableFault) → due ≡ Err fault → later ≡ Err fault) → Gives {A = D} later (Err e)
handed_on due later (stop.Refused fault) h more = more fault h
handed_on due later stop.NoMemory h more = tt

pub on_error : {C D : Type 0} (view : C → D) (later : Result D TableFault) (e : Stop TableFault) (r : Result C (Stop TableFault)) → IsErrAnd r (λ x. x ≡ e)
    → Gives {A = D} later (Err e) → Gives later (seen view r)
on_error view later e (Ok x) h g = absurd h
on_error {C} {D} view later e (Err x) h g = let P : Stop TableFault → Type 0 = λ u. Gives {A = D} later (Err u) in subst P (sym h) g

-- a header gives a place for each column
pub header_length : (columns : List Column) (header : List (List ℕ)) (places : List ℕ) → header_places columns header ≡ Ok places → length places ≡ length columns
header_length columns header places = by (length header == length columns)
  where
    by : (b : Bool) → (if b then collected (map (λ column. ok_or (position (names columns column) header) bad_header) columns) else Err bad_header) ≡ Ok places
        → length places ≡ length columns
    by true e = let placed : Column → Result ℕ TableFault = λ column. ok_or (position (names columns column) header) bad_header in
        length_collected (map placed columns) places e ∙ length-map columns placed
    by false e = cc
