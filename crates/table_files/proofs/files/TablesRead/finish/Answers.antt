use Rattle.csv_tables.specs.Constraints.{instance_rows}
use Rattle.csv_tables.proofs.CatalogLemmas.{valid_numbers}
use Rattle.table_files.proofs.Typing.{fits_checked, no_refusal}
use Rattle.table_files.proofs.files.TablesRead.finish.Goals as goal

pub check_instance-requires : goal.check_instance-requires
check_instance-requires c = valid_numbers c.args.catalog.now c.requires.valid

pub returns-clause-fits : goal.returns-clause-fits
returns-clause-fits c = fits_checked c.args.catalog.now (instance_rows c.args.self.instance) c.requires.typed (no_refusal _ _ c.in_ok-check_instance.ensures)
