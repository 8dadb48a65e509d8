use Rattle.std.proofs.Common.{ℕ, List, sym, ap, ◌∙◌, Result, Err, length}
use Rattle.csv.specs.Records.{fields_of}
use Rattle.csv_tables.specs.Outcomes.{rows_of}
use Rattle.csv_tables.specs.Reading.{header_places, rows_of_records, rows_under}
use Rattle.csv_tables.specs.Records.{file_records}
use Rattle.csv_tables.proofs.ReadingLemmas.{handed_on, on_error, header_length}
use Rattle.csv_tables.proofs.reading.read_records.Goals as goal

pub returns-then-not-branch : goal.returns-then-not-branch
returns-then-not-branch c =
    let none = rw c.if-not-branch.true at (c.in_ok-take_record.ensures (file_records c.args.bytes.now) c.reader_of-reader.ensures) in
    ap (rows_of_records c.args.columns.now) none ∙ ap Err (sym c.bad_header.ensures)

pub returns-in_err-places : goal.returns-in_err-places
returns-in_err-places c =
    let columns = c.args.columns.now in
    let (body, is, after) = rw c.if-not-branch.false at (c.in_ok-take_record.ensures (file_records c.args.bytes.now) c.reader_of-reader.ensures) in
    let header = fields_of c.take_record.new.fields in
    let due = handed_on (header_places columns header) (rows_of_records columns (file_records c.args.bytes.now)) c.in_err-places.field-0.0
    c.in_err-places.ensures (λ fault e. ap (rows_of_records columns) is ∙ ap (λ (r : Result (List ℕ) _). rows_under columns r body) e) in
    on_error rows_of _ c.in_err-places.field-0.0 c.from_residual-in_err-places.result c.from_residual-in_err-places.ensures.1 due

pub read_rows-requires-clause-placed : goal.read_rows-requires-clause-placed
read_rows-requires-clause-placed c =
    ap length c.as_slice.ensures ∙ header_length c.args.columns.now (fields_of c.take_record.new.fields) _ c.in_ok-places.ensures

pub returns : goal.returns
returns c =
    let columns = c.args.columns.now in
    let (body, is, after) = rw c.if-not-branch.false at (c.in_ok-take_record.ensures (file_records c.args.bytes.now) c.reader_of-reader.ensures) in
    let due = ap (rows_of_records columns) is ∙ ap (λ (r : Result (List ℕ) _). rows_under columns r body) c.in_ok-places.ensures in
    rw (due, sym c.as_slice.ensures) (c.read_rows.ensures body after)
