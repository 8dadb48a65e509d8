use Rattle.std.proofs.Common.{◌≡◌, get_or, sym, subst, Ok}
use Rattle.csv_tables.specs.Constraints.{instance_rows}
use Rattle.csv_tables.specs.Outcomes.{rows_of}
use Rattle.csv_tables.specs.Reading.{table_rows}
use Rattle.csv_tables.specs.Typed.{IsTyped}
use Rattle.table_files.proofs.Typing.{few_columns, table_there, typed_more}
use Rattle.table_files.proofs.files.TablesRead.add.Goals as goal

pub read_table-requires : goal.read_table-requires
read_table-requires c =
    let table = c.index-as_slice-table.result in
    few_columns c.args.catalog.now c.requires.valid c.args.table table c.requires.place
    (subst (λ ts. table ≡ get_or ts c.args.table table) c.as_slice.ensures c.index-as_slice-table.is)

pub returns-clause-typed : goal.returns-clause-typed
returns-clause-typed c =
    let table = c.index-as_slice-table.result in
    let catalog = c.args.catalog.now in
    let instance = instance_rows c.args.self.instance in
    let there = table_there catalog c.args.table table c.requires.place (subst (λ ts. table ≡ get_or ts c.args.table table) c.as_slice.ensures c.index-as_slice-table.is) in
    let read = subst (λ t. table_rows c.args.bytes.now t ≡ Ok (rows_of c.in_ok-rows.rows)) there c.in_ok-rows.ensures in
    subst (IsTyped catalog) (sym c.with_rows.ensures) (typed_more catalog instance c.requires.typed c.args.table c.requires.place c.args.bytes.now (rows_of c.in_ok-rows.rows) read)
