use Rattle.csv.specs.Records.{fields_of}
use Rattle.csv_tables.specs.Outcomes.{collected, rows_of}
use Rattle.csv_tables.specs.Reading.{record_row, record_rows}
use Rattle.csv_tables.proofs.ReadingLemmas.{all_read, row_read, bad_row, handed_on, on_error}
use Rattle.csv_tables.proofs.reading.read_rows.Goals as goal

pub returns-then-not-branch : goal.returns-then-not-branch
returns-then-not-branch g c left has =
    let (rest, there, so_far) = c.loop-row.invariant left has in
    let none = rw c.if-not-branch.true at (c.in_ok-take_record.ensures rest there) in
    all_read c.args.columns.now c.args.places.now _ c.loop-row.row c.loop-row.rows rest so_far none

pub returns-in_err-read_row : goal.returns-in_err-read_row
returns-in_err-read_row g c left has =
    let columns = c.args.columns.now in
    let places = c.args.places.now in
    let (rest, there, so_far) = c.loop-row.invariant left has in
    let (more, is, after) = rw c.if-not-branch.false at (c.in_ok-take_record.ensures rest there) in
    let due = handed_on (record_row columns places c.loop-row.row (fields_of c.take_record.new.fields))
    (collected (record_rows columns places 1 left)) c.in_err-read_row.field-0.0
    c.in_err-read_row.ensures (λ fault. bad_row columns places _ c.loop-row.row c.loop-row.rows fault _ rest more so_far is) in
    on_error rows_of _ c.in_err-read_row.field-0.0 c.from_residual-in_err-read_row.result c.from_residual-in_err-read_row.ensures.1 due

pub loop-row-preserved : goal.loop-row-preserved
loop-row-preserved g c left has =
    let (rest, there, so_far) = c.loop-row.invariant left has in
    let (more, is, after) = rw c.if-not-branch.false at (c.in_ok-take_record.ensures rest there) in
    let step = row_read c.args.columns.now c.args.places.now _ c.loop-row.row c.loop-row.rows c.in_ok-read_row.field-0 _ rest more so_far is c.in_ok-read_row.ensures in
    (more, after, rw c.in_ok-push.ensures.ok step)
