use Rattle.std.proofs.Common.{map, set, ap, ◌∙◌}
use Rattle.std.proofs.lemmas.List.{map-set}
use Rattle.csv_tables.specs.Outcomes.{rows_of}
use Rattle.table_files.proofs.files.with_rows.Goals as goal

pub returns : goal.returns
returns c =
    ap (map rows_of) (c.from_vec.ensures ∙ ap (λ tables. set tables c.args.table c.args.rows) c.into_vec-tables.ensures)
    ∙ map-set rows_of c.args.instance.tables c.args.table c.args.rows
